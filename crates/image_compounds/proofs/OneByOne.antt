-- What is made one by one: those so far, one more, and those that are still to come.
use Rattle.std.proofs.Common.{◌≡◌, ℕ, ◌+◌, ◌<◌, List, [], ◌∷◌, ◌++◌, Option, length, drop, get_or, refl, ap, sym, ◌∙◌, append_assoc}
use Rattle.std.proofs.lemmas.List.{drop_more}
use Rattle.ada_tree.specs.declared.statements.CaseAlternative.{CaseAlternative}
use Rattle.ada_tree.specs.declared.statements.Handler.{Handler}
use Rattle.ada_tree.specs.declared.selects.SelectAlternative.{SelectAlternative}
use Rattle.profile_image.specs.declared.numbers.StatementNo.{StatementNo}
use Rattle.profile_image.specs.declared.declarations.ExceptionChoice.{ExceptionChoice}
use Rattle.profile_image.specs.declared.declarations.Handler.{Handler as ExceptionHandler}
use Rattle.ada_image.specs.declared.making.Lists.{Lists}
use Rattle.ada_image.specs.declared.making.Within.{Within}
use Rattle.ada_image.specs.Making.{Making, ◌>>=◌, pure, the_action, in_handler}
use Rattle.ada_image.specs.ImageOfStatements.{SequenceMaking, alternatives_put, handled_made, handlers_put, inside}
use Rattle.ada_image.specs.ImageOfStatements.{select_alternative_put, select_alternatives_put}
use Rattle.image_compounds.specs.Parts.{alternative_made}

-- what is left of a list is one item, and what is left behind it
cut : {X : Type 0} (xs ys : List X) (i : ℕ) (x : X) → ys ≡ xs → i < length ys → x ≡ get_or ys i x → drop i xs ≡ x ∷ drop (i + 1) xs
cut xs ys i x same inside is =
    ap (λ zs. drop i zs) (sym same) ∙ drop_more ys i x inside ∙ ap (λ y. y ∷ drop (i + 1) ys) (sym is) ∙ ap (λ zs. x ∷ drop (i + 1) zs) same

-- one, and then others
pub one_then : {X : Type 0} → Making X → Making (List X) → Making (List X)
one_then m k lists = ((k (m lists).0).0, (m lists).1 ∷ (k (m lists).0).1)

list_more : {X : Type 0} (m : Making X) (k : Making (List X)) (before after : Lists) (x : X) (xs more : List X) (whole : Lists × List X)
    → m before ≡ (after, x) → more ≡ xs ++ x ∷ [] → (one_then m k before).0 ≡ whole.0 → xs ++ (one_then m k before).1 ≡ whole.1
    → ((k after).0 ≡ whole.0) × (more ++ (k after).1 ≡ whole.1)
unfolding one_then
list_more {X = X} m k before after x xs more whole made more-is lists-are made-are = (
  ap (λ (r : Lists × X). (k r.0).0) (sym made) ∙ lists-are,
  ap (λ ys. ys ++ (k after).1) more-is ∙ append_assoc xs (x ∷ []) (k after).1 ∙ ap (λ (r : Lists × X). xs ++ (r.1 ∷ (k r.0).1)) (sym made) ∙ made-are,
)

-- where each item of a list is made by itself, in order
module _ {A X : Type 0} (one : A → Making X) (all : List A → Making (List X))
    (in_order : (a : A) (others : List A) (lists : Lists) → one_then (one a) (all others) lists ≡ all (a ∷ others) lists) where
  one_more : (a : A) (items others : List A) (before after : Lists) (x : X) (xs more : List X) (whole : Lists × List X)
      → one a before ≡ (after, x) → items ≡ a ∷ others → more ≡ xs ++ x ∷ [] → (all items before).0 ≡ whole.0 → xs ++ (all items before).1 ≡ whole.1
      → ((all others after).0 ≡ whole.0) × (more ++ (all others after).1 ≡ whole.1)
  one_more a items others before after x xs more whole step items-are more-is lists-are made-are =
      let first : one_then (one a) (all others) before ≡ all items before =
      in_order a others before ∙ ap (λ ys. all ys before) (sym items-are) in
      list_more (one a) (all others) before after x xs more whole step more-is
      (ap (λ (r : Lists × List X). r.0) first ∙ lists-are) (ap (λ (r : Lists × List X). xs ++ r.1) first ∙ made-are)

  pub begun : (a : A) (others : List A) (before after : Lists) (x : X) (xs more : List X)
      → xs ≡ [] → one a before ≡ (after, x) → more ≡ xs ++ x ∷ []
      → ((all others after).0 ≡ (all (a ∷ others) before).0) × (more ++ (all others after).1 ≡ (all (a ∷ others) before).1)
  begun a others before after x xs more none step more-is =
      one_more a (a ∷ others) others before after x xs more (all (a ∷ others) before) step refl more-is refl
      (ap (λ ys. ys ++ (all (a ∷ others) before).1) none)

  pub further : (a : A) (items slice : List A) (i : ℕ) (before after : Lists) (x : X) (xs more : List X) (whole : Lists × List X)
      → slice ≡ items → i < length slice → a ≡ get_or slice i a → one a before ≡ (after, x) → more ≡ xs ++ x ∷ []
      → (all (drop i items) before).0 ≡ whole.0 → xs ++ (all (drop i items) before).1 ≡ whole.1
      → ((all (drop (i + 1) items) after).0 ≡ whole.0) × (more ++ (all (drop (i + 1) items) after).1 ≡ whole.1)
  further a items slice i before after x xs more whole slice-is inside is step more-is lists-are made-are =
      one_more a (drop i items) (drop (i + 1) items) before after x xs more whole step (cut items slice i a slice-is inside is) more-is lists-are made-are

module _ {Q : Type 0} (sequence : Q → SequenceMaking) (within : Within) (next : Option StatementNo) where
  pub alternatives_in_order : (a : CaseAlternative Q) (others : List (CaseAlternative Q)) (lists : Lists)
      → one_then (alternative_made sequence within a next) (alternatives_put sequence within others next) lists
      ≡ alternatives_put sequence within (a ∷ others) next lists
  unfolding one_then alternative_made alternatives_put
  alternatives_in_order a others lists = refl

  pub select_alternatives_in_order : (a : SelectAlternative Q) (others : List (SelectAlternative Q)) (lists : Lists)
      → one_then (select_alternative_put sequence within a next) (select_alternatives_put sequence within others next) lists
      ≡ select_alternatives_put sequence within (a ∷ others) next lists
  unfolding one_then select_alternatives_put
  select_alternatives_in_order a others lists = refl

  pub handler_made : Handler Q → Making ExceptionHandler
  handler_made h = do
    first ← inside sequence h.statements (in_handler within) next
    pure (record { choices = handled_made within h.exceptions; first = the_action first })

  pub handlers_in_order : (h : Handler Q) (others : List (Handler Q)) (lists : Lists)
      → one_then (handler_made h) (handlers_put sequence within others next) lists ≡ handlers_put sequence within (h ∷ others) next lists
  unfolding one_then handler_made handlers_put
  handlers_in_order h others lists = refl

  pub handler_is_made : (h : Handler Q) (inner : Within) (before after : Lists) (choices : List ExceptionChoice) (first : Option StatementNo)
      (action : StatementNo)
      → choices ≡ handled_made within h.exceptions → inner ≡ in_handler within → inside sequence h.statements inner next before ≡ (after, first)
      → action ≡ the_action first → handler_made h before ≡ (after, record { choices = choices; first = action })
  unfolding handler_made
  handler_is_made h inner before after choices first action choices-are inner-is step action-is = simp (choices-are, ← inner-is, step, action-is)
