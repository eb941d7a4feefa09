-- That the contracts say what the page Promised says.
-- Assumes nothing.
use mathlib.Core.Path.{◌≡◌, sym, ap, ◌∙◌}
use mathlib.Core.Bool.{Bool}
use Prim.Native.Nat.{ℕ}
use Rattle.std.specs.Prelude.{Result, Ok, Err}
use Rattle.ground.specs.declared.replies.Reply.{Reply}
use Rattle.ground.proofs.Laws.Numbered.{never_zero, same_number}
use Rattle.norms.specs.Answers.{Choice, answered}
use Rattle.listing.specs.Listing.{Listing, answer_of}
use Rattle.promises.specs.Promised.{Contracts, Alike}

pub contracts : Contracts
contracts =
    record {
      of_read_prefix = λ κs given r exit p. p;
      of_write_prefix = λ κs given r exit p. p;
      of_read = λ κs given r exit p. p;
      of_write = λ κs given r exit p. p;
      of_write_empty = λ κs given r exit p. p;
      of_layout = λ κs given r exit p. p;
      of_choose_flag_c = λ κs given r exit p. p;
      of_choose_flag_n = λ κs given r exit p. p;
      of_legalise = λ κs given r exit p. p;
      of_weigh = λ κs given r exit p. p;
      of_allot = λ κs given r exit p. p;
      of_lattice_point = λ κs given r exit p. p;
      of_lattice_index = λ κs given r exit p. p;
      of_codebook_point = λ κs given r exit p. p;
      of_codebook_index = λ κs given r exit p. p;
      of_check = λ κs given r exit p. p;
      of_list = λ κs given r exit p. p;
      of_check_blocks = λ κs given r exit p. p;
      of_extract = λ κs given r exit p. p;
      of_join = λ κs given r exit p. p;
      of_read_block = λ κs given r exit p. p;
      of_write_block = λ κs given r exit p. p;
    }

-- 0 tells an answer that is made from a refusal, and its number the reply
one_choice : (r s : Result Bool Reply) → answered r ≡ answered s → r ≡ s
one_choice (Ok b) (Ok c) e = ap Ok (ap (λ (x : Choice). x.flag) e)
one_choice (Ok b) (Err y) e = absurd (never_zero y (sym (ap (λ (x : Choice). x.reply) e)))
one_choice (Err x) (Ok c) e = absurd (never_zero x (ap (λ (x : Choice). x.reply) e))
one_choice (Err x) (Err y) e = ap Err (same_number x y (ap (λ (x : Choice). x.reply) e))

one_listing : (r s : Result ℕ Reply) → answer_of r ≡ answer_of s → r ≡ s
one_listing (Ok n) (Ok m) e = ap Ok (ap (λ (x : Listing). x.length) e)
one_listing (Ok n) (Err y) e = absurd (never_zero y (sym (ap (λ (x : Listing). x.reply) e)))
one_listing (Err x) (Ok m) e = absurd (never_zero x (ap (λ (x : Listing). x.reply) e))
one_listing (Err x) (Err y) e = ap Err (same_number x y (ap (λ (x : Listing). x.reply) e))

pub alike : Alike
alike =
    record {
      answers = λ c r s p q. p ∙ sym q;
      writes = λ c r s o n p q. (p.0 ∙ sym q.0, p.1 ∙ sym q.1);
      reads = λ c r s k l t u p q. (p.0 ∙ sym q.0, p.1 ∙ sym q.1, p.2 ∙ sym q.2);
      choices = one_choice;
      listings = one_listing;
    }
