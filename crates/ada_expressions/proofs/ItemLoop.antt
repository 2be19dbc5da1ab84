-- A loop that reads items as long as one begins: what each way out of it has read.
use Rattle.std.proofs.Common.{◌≡◌, ℕ, zero, suc, ◌+◌, ◌-◌, ◌<◌, ◌≤◌, Bool, true, false, List, [], ◌∷◌, ◌++◌, Ok, Err, refl, sym, ◌∙◌}
use Rattle.ada_tree.specs.Written.{Lexeme}
use Rattle.ann_base.specs.declared.faults.OrMemory.{OrMemory}
use Rattle.ann_base.specs.declared.faults.OrMemory.TheVariants as answer
use Rattle.ada_grammar.specs.declared.stuck.Stuck.{Stuck}
use Rattle.ada_grammar.specs.Reading.{Parser, Read, items_from}
use Rattle.ada_expressions.proofs.Turns.{Stopped, one_more, no_more}

module _ {A : Type 0} (begins : List Lexeme → Bool) (item : Parser A) where
  ends_at : (fuel : ℕ) (found : List A) (ls : List Lexeme) → begins ls ≡ false → items_from begins item fuel found ls ≡ Ok (found, ls)
  unfolding items_from
  ends_at zero found ls e = refl
  ends_at (suc fuel) found ls e = rw e refl

  pub none_begins : (turn end : ℕ) (found : List A) (ls : List Lexeme) (whole : Read (List A)) → begins ls ≡ false
      → items_from begins item (end - turn) found ls ≡ whole → whole ≡ Ok (found, ls)
  none_begins turn end found ls whole e is = sym is ∙ ends_at (end - turn) found ls e

  pub no_turn : (turn end : ℕ) (found : List A) (ls : List Lexeme) (whole : Read (List A)) → end ≤ turn
      → items_from begins item (end - turn) found ls ≡ whole → whole ≡ Ok (found, ls)
  unfolding items_from
  no_turn turn end found ls whole p is = sym (no_more (λ n. items_from begins item n found ls) whole turn end p is)

  goes_on : (fuel : ℕ) (found : List A) (ls m : List Lexeme) (x : A) → begins ls ≡ true → item ls ≡ Ok (x, m)
      → items_from begins item (suc fuel) found ls ≡ items_from begins item fuel (found ++ x ∷ []) m
  unfolding items_from
  goes_on fuel found ls m x e f = rw (e, f) refl

  pub one_read : (turn end : ℕ) (found : List A) (ls m : List Lexeme) (x : A) (whole : Read (List A)) → turn < end → begins ls ≡ true → item ls ≡ Ok (x, m)
      → items_from begins item (end - turn) found ls ≡ whole → items_from begins item (end - (turn + 1)) (found ++ x ∷ []) m ≡ whole
  one_read turn end found ls m x whole p e f is =
      sym (goes_on (end - (turn + 1)) found ls m x e f) ∙ one_more (λ n. items_from begins item n found ls) whole turn end p is

  stops_at : (fuel : ℕ) (found : List A) (ls : List Lexeme) (why : Stuck) → begins ls ≡ true → item ls ≡ Err why
      → items_from begins item (suc fuel) found ls ≡ Err why
  unfolding items_from
  stops_at fuel found ls why e f = rw (e, f) refl

  pub one_stops : (turn end : ℕ) (found : List A) (ls : List Lexeme) (why : OrMemory Stuck) (whole : Read (List A)) → turn < end → begins ls ≡ true
      → Stopped why (item ls)
      → items_from begins item (end - turn) found ls ≡ whole → Stopped why whole
  one_stops turn end found ls answer.Memory whole p e f is = tt
  one_stops turn end found ls (answer.Fault why) whole p e f is =
      sym (one_more (λ n. items_from begins item n found ls) whole turn end p is) ∙ stops_at (end - (turn + 1)) found ls why e f
