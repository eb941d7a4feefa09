-- A frame's body as a codec (01, Stored frame; 7.8): IsTransient, FlagL, FlagN, FlagC; norms; coefficient codes; 2 noise bits if IsTransient is 0; tail.
-- What follows depends on what was read: the flags say how the norms are sent, and flags and norms say the rates.
-- Assumes nothing.
use Rattle.std.specs.Prelude.{Bool, false, List, map, ℕ, ◌+◌, ◌-◌, length, get_or}
use Rattle.bits.specs.Codings.{fixed}
use Rattle.bits.specs.Codecs.{Codec, coded, words, raw, within, pair, write_all}
use Rattle.words.specs.Tables.{coding}
use Rattle.norms.specs.Part.{norm_part, norm_bits}
use Rattle.kinds.specs.Budget.{noise_bits, all_compete, kinds_at}

-- ---- the parts

-- flags, norms in band order, the 800 codes, noise, tail
abbrev pub Ending : Type 0
Ending = ℕ × List Bool

abbrev pub Rest : Type 0
Rest = List ℕ × Ending

abbrev pub Frame : Type 0
Frame = List Bool × (List ℕ × Rest)

abbrev pub made_frame : List Bool → List ℕ → List ℕ → ℕ → List Bool → Frame
made_frame flags norms codes noise tail = (flags, (norms, (codes, (noise, tail))))

abbrev pub flags_in : Frame → List Bool
flags_in x = x.0

abbrev pub norms_in : Frame → List ℕ
norms_in x = x.1.0

abbrev pub codes_in : Frame → List ℕ
codes_in x = x.1.1.0

abbrev pub noise_in : Frame → ℕ
noise_in x = x.1.1.1.0

abbrev pub tail_in : Frame → List Bool
tail_in x = x.1.1.1.1

-- ---- the flags

abbrev pub is_transient : List Bool → Bool
is_transient flags = get_or flags 0 false

abbrev pub flag_l : List Bool → Bool
flag_l flags = get_or flags 1 false

abbrev pub flag_n : List Bool → Bool
flag_n flags = get_or flags 2 false

abbrev pub flag_c : List Bool → Bool
flag_c flags = get_or flags 3 false

-- ---- the budget and the kinds

-- Ψ = frame bits − 4 − norm bits − 2 if stationary, after n norm bits
abbrev pub budget_after : ℕ → Bool → ℕ → ℕ
budget_after total transient n = total - (4 + n) - noise_bits transient

unfoldable pub budget_of : ℕ → List Bool → List ℕ → ℕ
budget_of total flags norms = budget_after total (is_transient flags) (length (norm_bits (is_transient flags) (flag_n flags) norms))

unfoldable pub kinds_of : ℕ → List Bool → List ℕ → List ℕ
kinds_of total flags norms = kinds_at (is_transient flags) (all_compete total (flag_l flags)) (flag_c flags) norms (budget_of total flags norms)

-- the bits of the codes
unfoldable pub code_bits : ℕ → List Bool → List ℕ → List ℕ → List Bool
code_bits total flags norms codes = write_all (map coding (kinds_of total flags norms)) codes

-- what the codes leave of the budget is the tail
unfoldable pub tail_left : ℕ → List Bool → List ℕ → List ℕ → ℕ
tail_left total flags norms codes = budget_of total flags norms - length (code_bits total flags norms codes)

-- ---- the codec

unfoldable pub codes_part : ℕ → List Bool → List ℕ → Codec (List ℕ)
codes_part total flags norms = words (map coding (kinds_of total flags norms))

-- the noise, then the tail
abbrev pub ending_part : ℕ → List Bool → List ℕ → List ℕ → Codec Ending
ending_part total flags norms codes = pair (coded (fixed (noise_bits (is_transient flags)))) (λ noise. raw (tail_left total flags norms codes))

-- the codes leave the bits of the noise
abbrev pub rest_part : ℕ → List Bool → List ℕ → Codec Rest
rest_part total flags norms = pair (within (noise_bits (is_transient flags)) (codes_part total flags norms)) (ending_part total flags norms)

abbrev pub norms_and_rest : ℕ → List Bool → Codec (List ℕ × Rest)
norms_and_rest total flags = pair (norm_part (is_transient flags) (flag_n flags)) (rest_part total flags)

unfoldable pub frame : ℕ → Codec Frame
frame total = pair (raw 4) (norms_and_rest total)
