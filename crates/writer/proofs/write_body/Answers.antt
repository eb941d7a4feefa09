-- `writer::write_body` meets its contract: part after part. Assumes nothing.
use mathlib.Core.Path.{sym, ◌∙◌}
use native.Mathlib.Omega.{arith}
use Rattle.layout.proofs.Laws.Parts.{norm_room}
use Rattle.writer.proofs.Laws.Bodies.{body_code, few}
use Rattle.kinds.proofs.Laws.Budget.{noise_le}
use Rattle.writer.proofs.write_body.Goals as goal

pub overflow_add-codes : goal.overflow_add-codes
overflow_add-codes c =
    omega (arith, norm_room _ _ _ _ c.write_norms-codes.ensures.0)

pub write_words-requires : goal.write_words-requires
write_words-requires c =
    (c.requires.1 ∙ sym c.requires.2, omega (arith, c.requires.1, norm_room _ _ _ _ c.write_norms-codes.ensures.0))

pub overflow_add-noise : goal.overflow_add-noise
overflow_add-noise c =
    omega (arith, few c.args.r _ _ c.requires.1 c.write_norms-codes.ensures.0 c.write_words.ensures.0)

pub overflow_add-noise-2 : goal.overflow_add-noise-2
overflow_add-noise-2 c =
    omega (arith, few c.args.r _ _ c.requires.1 c.write_norms-codes.ensures.0 c.write_words.ensures.0, noise_le c.args.r.transient, c.noise_bits-k.ensures)

pub copy_bits-requires : goal.copy_bits-requires
copy_bits-requires c =
    omega (
      arith,
      few c.args.r _ _ c.requires.1 c.write_norms-codes.ensures.0 c.write_words.ensures.0,
      noise_le c.args.r.transient,
      c.noise_bits-k.ensures,
      c.from-2.ensures,
    )

pub returns : goal.returns
returns c =
    body_code _ _ _ _ _ c.requires.0 c.flag_number.ensures c.write_bits.ensures c.write_norms-codes.ensures.0 c.write_norms-codes.ensures.1 c.write_words.ensures.0
    c.write_words.ensures.1 c.noise_bits-k.ensures c.from.ensures c.write_bits-2.ensures c.from-2.ensures c.copy_bits.ensures
