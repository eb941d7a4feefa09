-- The empty frame (01: written by its own call as one byte 00; no room for it is 10).
-- Assumes nothing.
use Rattle.std.specs.Prelude.{cond, List, [], ◌∷◌, ℕ, eqb}
use Rattle.ground.specs.Replies.{done, short_room}
use Rattle.prefix.specs.Prefix.{byte_with}
use Rattle.writer.specs.declared.Writing.{Writing}

unfoldable pub empty_reply : ℕ → Writing
empty_reply room = cond (eqb room 0) (record { reply = short_room; next = 0 }) (record { reply = done; next = 1 })

-- F, L and R are 0
unfoldable pub empty_after : List ℕ → List ℕ
empty_after [] = []
empty_after (x ∷ out) = byte_with 0 0 0 ∷ out
