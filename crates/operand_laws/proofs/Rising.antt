-- A step of making keeps the order of operands: each has a smaller number than what it stands in. What it answers as a number is
-- that of an expression, which is there when it becomes an operand.
use Rattle.std.proofs.Common.{◌≡◌, ℕ, suc, ◌+◌, ◌<◌, ◌≤◌, length, true, List, [], ◌∷◌, ◌++◌, Option, refl, ap, subst, ◌∙◌, arith, ltb}
use Rattle.std.proofs.lemmas.Bool.{and_parts, and_from, lt-ltb}
use Rattle.std.proofs.lemmas.List.{length-append}
use Rattle.profile_image.specs.declared.numbers.ExprNo.{ExprNo}
use Rattle.profile_image.specs.declared.numbers.StatementNo.{StatementNo}
use Rattle.profile_image.specs.declared.expressions.Expression.{Expression as Valuation}
use Rattle.profile_image.specs.declared.statements.StatementForm.{StatementForm}
use Rattle.std.specs.List.{list_all}
use Rattle.ada_image.specs.declared.making.Lists.{Lists}
use Rattle.ada_image.specs.Making.{Making, ◌>>=◌, pure, value_put, action_put, reserved, put_at, first_put}
use Rattle.world_laws.specs.ValueLaws.{operands, operands_before, operands_rise_from}

-- each operand in the lists has a smaller number than what it stands in
abbrev pub Rising : Lists → Type 0
Rising l = operands_rise_from 0 l.expressions ≡ true

-- ---- steps of which the answer does not matter

abbrev pub Keeps : {X : Type 0} → Making X → Type 0
Keeps m = (l : Lists) → Rising l → Rising (m l).0

pub keeps-then : {X Y : Type 0} (m : Making X) (f : X → Making Y) → Keeps m → ((x : X) → Keeps (f x)) → Keeps (m >>= f)
keeps-then m f g h l r = h (m l).1 (m l).0 (g l r)

-- actions are no expressions

pub action-keeps : (f : StatementForm) (signs : ℕ) (next : Option StatementNo) → Keeps (action_put f signs next)
unfolding action_put
action-keeps f signs next l h = h

pub reserved-keeps : Keeps reserved
unfolding reserved
reserved-keeps l h = h

pub put-keeps : (s : StatementNo) (f : StatementForm) (signs : ℕ) (next : Option StatementNo) → Keeps (put_at s f signs next)
unfolding put_at
put-keeps s f signs next l h = h

pub first-keeps : (scope : ℕ) (first : Option StatementNo) → Keeps (first_put scope first)
unfolding first_put
first-keeps scope first l h = h

-- ---- steps that answer the number of an expression

-- the number that is answered is of an expression behind the step, and each that was one before still is
pub record Made (l : Lists) (r : Lists × ExprNo) : Type 0 where
  pub rising : Rising r.0
  pub grows : length l.expressions ≤ length r.0.expressions
  pub made : r.1.0 < length r.0.expressions

abbrev pub Makes : Making ExprNo → Type 0
Makes m = (l : Lists) → Rising l → Made l (m l)

-- the same, where there is an expression of this number
abbrev pub MakesBehind : ExprNo → Making ExprNo → Type 0
MakesBehind n m = (l : Lists) → n.0 < length l.expressions → Rising l → Made l (m l)

made-then : (l : Lists) (a b : Lists × ExprNo) → Made l a → Made a.0 b → Made l b
made-then l a b g h = record { rising = h.rising; grows = let x = g.grows in let y = h.grows in omega arith; made = h.made }

pub makes-then : (m : Making ExprNo) (f : ExprNo → Making ExprNo) → Makes m → ((x : ExprNo) → MakesBehind x (f x)) → Makes (m >>= f)
makes-then m f g h l r = let a = g l r in made-then l (m l) (f (m l).1 (m l).0) a (h (m l).1 (m l).0 a.made a.rising)

pub behind-then : (n : ExprNo) (m : Making ExprNo) (f : ExprNo → Making ExprNo) → MakesBehind n m → ((x : ExprNo) → MakesBehind x (f x))
    → MakesBehind n (m >>= f)
behind-then n m f g h l there r = let a = g l there r in made-then l (m l) (f (m l).1 (m l).0) a (h (m l).1 (m l).0 a.made a.rising)

pub behind-pure : (n : ExprNo) → MakesBehind n (pure n)
behind-pure n l there r = record { rising = r; grows = omega arith; made = there }

-- ---- an expression is put at the end

rise-behind : (es : List Valuation) (n : ℕ) (v : Valuation) → operands_rise_from n es ≡ true → operands_before (n + length es) v ≡ true
    → operands_rise_from n (es ++ v ∷ []) ≡ true
rise-behind [] n v r before = and_from _ true (subst (λ m. operands_before m v ≡ true) (omega arith) before) refl
rise-behind (e ∷ es) n v r before =
    let both = and_parts (operands_before n e) (operands_rise_from (suc n) es) r in
    and_from _ _ both.0 (rise-behind es (suc n) v both.1 (subst (λ m. operands_before m v ≡ true) (omega arith) before))

pub value-made : (v : Valuation) (l : Lists) → operands_before (length l.expressions) v ≡ true → Rising l → Made l (value_put v l)
unfolding value_put
value-made v l before r = record {
  rising = rise-behind l.expressions 0 v r (subst (λ n. operands_before n v ≡ true) (omega arith) before);
  grows = let x = length-append l.expressions (v ∷ []) in omega arith;
  made = let x = length-append l.expressions (v ∷ []) in omega arith;
}

before-as : (n : ℕ) (v : Valuation) (os : List ExprNo) → operands v ≡ os → list_all (λ operand. ltb operand.0 n) os ≡ true → operands_before n v ≡ true
before-as n v os is h = ap (list_all (λ operand. ltb operand.0 n)) is ∙ h

-- one without operands
pub no-operand-makes : (v : Valuation) → operands v ≡ [] → Makes (value_put v)
no-operand-makes v is l r = value-made v l (before-as _ v [] is refl) r

pub no-operand-keeps : (v : Valuation) → operands v ≡ [] → Keeps (value_put v)
no-operand-keeps v is l r = (no-operand-makes v is l r).rising

-- one with this operand
pub operand-makes : (x : ExprNo) (v : Valuation) → operands v ≡ x ∷ [] → MakesBehind x (value_put v)
operand-makes x v is l there r = value-made v l (before-as _ v (x ∷ []) is (and_from _ true (lt-ltb _ _ there) refl)) r

-- one with an operand that is there, and one that is made
pub two-operands-make : (left : ExprNo) (m : Making ExprNo) (f : ExprNo → Valuation) → ((x : ExprNo) → operands (f x) ≡ left ∷ x ∷ []) → Makes m
    → MakesBehind left (m >>= (λ x. value_put (f x)))
two-operands-make left m f is g l there r =
    let a = g l r in
    let has : left.0 < length (m l).0.expressions = let x = a.grows in omega (arith, there) in
    made-then l (m l) (value_put (f (m l).1) (m l).0) a
    (value-made (f (m l).1) (m l).0
    (before-as _ _ (left ∷ (m l).1 ∷ []) (is (m l).1) (and_from _ _ (lt-ltb _ _ has) (and_from _ true (lt-ltb _ _ a.made) refl))) a.rising)
