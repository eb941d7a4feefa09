-- The starred examples of 01: one list, one claim.
-- Assumes nothing.
use Rattle.std.specs.Prelude.{◌≡◌, Bool, true, false, List, [], ◌∷◌, ◌++◌, ℕ, pos, negsuc, take, drop, replicate}
use Rattle.prefix.specs.Prefix.{prefix_of, reading_of as prefix_reading}
use Rattle.weights.specs.Weights.{weighed}
use Rattle.allotment.specs.Allotment.{shares_of}
use Rattle.points.specs.Answers.{point_of}
use Rattle.kinds.specs.Budget.{all_compete}
use Rattle.frame.specs.Layout.{budget_of}
use Rattle.frame.specs.Answers.{read_answer, reading_of, stopped_at}
use Rattle.writer.specs.Writes.{bytes_for}
use Rattle.frame.specs.declared.Record.{Record}
use Rattle.listing.specs.Text.{ascii}
use Rattle.listing.specs.Listing.{listing_of}
use Rattle.recording.specs.Walk.{check_of}

-- all that stands in a list of claims holds
pub data All : List {1} (Type 0) → Type 1 where
  done : All []
  also : {A : Type 0} {As : List {1} (Type 0)} → A → All As → All (A ∷ As)

-- ---- what the examples speak of

-- all indices 20
abbrev pub twenties : List ℕ
twenties = replicate 44 20

-- stationary, FlagL 1, FlagC 0; FlagN as given
abbrev pub flags : Bool → List Bool
flags n = false ∷ true ∷ n ∷ false ∷ []

-- with 80 bytes
abbrev pub small : ℕ → ℕ → Record
small noise bits =
    record { mode = 0; transient = false; flag_l = true; flag_n = true; flag_c = false; norms = twenties; noise = noise; tail_bits = bits }

-- x and y in the first two of eight places
abbrev pub eight : {A : Type 0} → A → A → A → List A
eight x y z = x ∷ y ∷ z ∷ z ∷ z ∷ z ∷ z ∷ z ∷ []

-- ---- the list

unfoldable pub starred : List {1} (Type 0)
starred =
    -- Prefix 20 alone: 4. 04: 3. 80: 2. 6C: L 27, 320 bytes. 70: 3
    (reading_of (read_answer (0x20 ∷ []) 800 320) ≡ stopped_at 4 0)
    ∷ (prefix_reading (prefix_of (0x04 ∷ [])) ≡ record { reply = 3; field = 0; bytes = 0; next = 0 })
    ∷ (prefix_reading (prefix_of (0x80 ∷ [])) ≡ record { reply = 2; field = 0; bytes = 0; next = 0 })
    ∷ (prefix_reading (prefix_of (0x6C ∷ [])) ≡ record { reply = 0; field = 27; bytes = 320; next = 1 })
    ∷ (prefix_reading (prefix_of (0x70 ∷ [])) ≡ record { reply = 3; field = 0; bytes = 0; next = 0 })
    -- File check of 00 20: one sound frame, reply 4 at place 1
    ∷ ((booking : ℕ) → check_of (0x00 ∷ 0x20 ∷ []) booking ≡ record { reply = 4; count = 1; place = 1 })
    -- The lister ends it with 0001 4 0, total 1 answer 4 at 1
    ∷ (listing_of (0x00 ∷ 0x20 ∷ []) ≡ ascii "0000 14 0\n0001 4 0\ntotal 1 answer 4 at 1\n")
    -- and prints of 00 00, whole, which has no star
    ∷ (listing_of (0x00 ∷ 0x00 ∷ []) ≡ ascii "0000 14 0\n0001 14 0\ntotal 2 answer 0 at 2\n")
    -- Stationary, 80 bytes, all indices 20, FlagN 0, FlagL 1: Ψ 414; rate 2 for band 0, 1 for 1–29, else 0; 6 left
    ∷ (budget_of 640 (flags false) twenties ≡ 414)
    ∷ (shares_of false (all_compete 640 true) twenties 414 ≡ record { reply = 0; rates = 2 ∷ replicate 29 1 ++ replicate 14 0; left = 6; rounds = 75 })
    -- Same, FlagN 1: Ψ 500; rate 1 for 0–33; 4 left. With FlagC 0 the body begins 6A 6D B6 DB 6D
    ∷ (budget_of 640 (flags true) twenties ≡ 500)
    ∷ (shares_of false (all_compete 640 true) twenties 500 ≡ record { reply = 0; rates = replicate 34 1 ++ replicate 10 0; left = 4; rounds = 78 })
    ∷ ((noise bits : ℕ) (codes tail : List ℕ) → take 5 (drop 1 (bytes_for (small noise bits) codes tail)) ≡ 0x6A ∷ 0x6D ∷ 0xB6 ∷ 0xDB ∷ 0x6D ∷ [])
    -- Weights, stationary, index 0 in band 0, 20 elsewhere: 0, 12, 25, 38, 51, then 64. The scores are 16 × 34, then 16 × 14 and the weight
    ∷ (weighed false (0 ∷ replicate 43 20)
    ≡ record {
      reply = 0;
      weights = 0 ∷ 12 ∷ 25 ∷ 38 ∷ 51 ∷ replicate 39 64;
      scores = pos 544 ∷ pos 236 ∷ pos 249 ∷ pos 262 ∷ pos 275 ∷ replicate 39 (pos 288);
    })
    -- Rate 2, k1 = 1, 2, 3, others 0: points first 2, 4, −2, others 0. k2 = 3 alone: −1, −1, 0 …
    ∷ (point_of 2 (eight 1 0 0) ≡ record { reply = 0; at = eight (pos 2) (pos 0) (pos 0) })
    ∷ (point_of 2 (eight 2 0 0) ≡ record { reply = 0; at = eight (pos 4) (pos 0) (pos 0) })
    ∷ (point_of 2 (eight 3 0 0) ≡ record { reply = 0; at = eight (negsuc 1) (pos 0) (pos 0) })
    ∷ (point_of 2 (eight 0 3 0) ≡ record { reply = 0; at = eight (negsuc 0) (negsuc 0) (pos 0) })
    ∷ []
