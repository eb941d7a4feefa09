-- The listings that 01 prints.
-- Assumes nothing.
use mathlib.Core.Path.{◌≡◌, refl}
use mathlib.Core.List.{[], ◌∷◌}
use Rattle.prefix.specs.Sizes.{table_a2, length_bytes}
use Rattle.prefix.specs.Prefix.{prefix_of, prefix_byte}
use Rattle.frame.specs.Answers.{read_answer}
use Rattle.recording.specs.Walk.{stored_at, onward, next_step, walk_over}
use Rattle.decimals.specs.Decimals.{digits, decimal_by, decimal}
use Rattle.listing.specs.Text.{frame_line, total_line, ascii}
use Rattle.listing.specs.Listing.{line_of, lines, listing_of}

-- input 00 00, whole
pub listing_00_00 : listing_of (0x00 ∷ 0x00 ∷ []) ≡ ascii "0000 14 0\n0001 14 0\ntotal 2 answer 0 at 2\n"
unfolding ascii listing_of lines line_of frame_line total_line digits decimal decimal_by walk_over next_step onward stored_at
    read_answer prefix_of prefix_byte table_a2 length_bytes
listing_00_00 = refl

-- ★ 00 20 ends with 0001 4 0, total 1 answer 4 at 1
pub star_listing_00_20 : listing_of (0x00 ∷ 0x20 ∷ []) ≡ ascii "0000 14 0\n0001 4 0\ntotal 1 answer 4 at 1\n"
unfolding ascii listing_of lines line_of frame_line total_line digits decimal decimal_by walk_over next_step onward stored_at
    read_answer prefix_of prefix_byte table_a2 length_bytes
star_listing_00_20 = refl
