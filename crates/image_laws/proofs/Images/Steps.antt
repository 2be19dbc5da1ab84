-- What a step of making leaves: it puts things at the ends of the lists, and what was there stays. So what a step has made
-- is read in each program that has the lists behind it.
use Rattle.std.proofs.Common.{◌≡◌, ◌≢◌, ℕ, ◌+◌, ◌<◌, ◌≤◌, length, List, [], ◌∷◌, ◌++◌, Option, Some, refl, ap, ◌∙◌, arith}
use Rattle.std.proofs.lemmas.List.{length-append, length-set, get_or_append_left, get_or-set_same, get_or-set_other}
use Rattle.std.proofs.Math.Seq.{get_or-append_seam}
use Rattle.profile_image.specs.declared.image.Image.{Image}
use Rattle.profile_image.specs.declared.numbers.ExprNo.{ExprNo}
use Rattle.profile_image.specs.declared.numbers.StatementNo.{StatementNo}
use Rattle.profile_image.specs.declared.values.Value.TheVariants as value
use Rattle.profile_image.specs.declared.expressions.Expression.{Expression as Valuation}
use Rattle.profile_image.specs.declared.expressions.Expression.TheVariants as valuation
use Rattle.profile_image.specs.declared.statements.Statement.{Statement as Action}
use Rattle.profile_image.specs.declared.statements.StatementForm.{StatementForm}
use Rattle.profile_image.specs.Program.{expression_of, form_of, next_of, no_statement}
use Rattle.std.specs.Prelude.{slice_index_or, pos}
use Rattle.ada_image.specs.declared.making.FirstAction.{FirstAction}
use Rattle.ada_image.specs.declared.making.Lists.{Lists}
use Rattle.ada_image.specs.Making.{Making, ◌>>=◌, pure, value_put, action, action_put, reserved, put_at, first_put}
use Rattle.ada_image.specs.ReadStatements.{first_of_scope}

-- ---- lists that grew

abbrev pub value_at : List Valuation → ℕ → Valuation
value_at es i = slice_index_or es i (valuation.Known (value.Whole (pos 0)))

abbrev pub action_at : List Action → ℕ → Action
action_at ss i = slice_index_or ss i no_statement

-- the scopes of the program begin with these actions
abbrev pub FirstsStand : Image → List FirstAction → Type 0
FirstsStand p [] = Unit {0}
FirstsStand p (f ∷ fs) = (first_of_scope p f.scope ≡ f.action) × FirstsStand p fs

pub record Grown (a b : Lists) : Type 0 where
  pub values : length a.expressions ≤ length b.expressions
  pub same_values : (i : ℕ) → i < length a.expressions → value_at b.expressions i ≡ value_at a.expressions i
  pub actions : length a.statements ≤ length b.statements
  pub same_actions : (i : ℕ) → i < length a.statements → action_at b.statements i ≡ action_at a.statements i
  pub same_firsts : (p : Image) → FirstsStand p b.firsts → FirstsStand p a.firsts

-- the program has what is in the lists; its actions are these from one on
pub record Holds (p : Image) (from : ℕ) (l : Lists) : Type 0 where
  pub values : (i : ℕ) → i < length l.expressions → value_at p.expressions i ≡ value_at l.expressions i
  pub actions : (i : ℕ) → from ≤ i → i < length l.statements → action_at p.statements i ≡ action_at l.statements i
  pub firsts : FirstsStand p l.firsts

pub grown-same : (l : Lists) → Grown l l
grown-same l = record { values = omega arith; same_values = λ i h. refl; actions = omega arith; same_actions = λ i h. refl; same_firsts = λ p h. h }

pub grown-then : (a b c : Lists) → Grown a b → Grown b c → Grown a c
grown-then a b c g h = record {
  values = let x = g.values in let y = h.values in omega arith;
  same_values = λ i k. h.same_values i (let x = g.values in omega arith) ∙ g.same_values i k;
  actions = let x = g.actions in let y = h.actions in omega arith;
  same_actions = λ i k. h.same_actions i (let x = g.actions in omega arith) ∙ g.same_actions i k;
  same_firsts = λ p k. g.same_firsts p (h.same_firsts p k);
}

pub holds-before : (p : Image) (from : ℕ) (a b : Lists) → Grown a b → Holds p from b → Holds p from a
holds-before p from a b g h = record {
  values = λ i k. h.values i (let x = g.values in omega arith) ∙ g.same_values i k;
  actions = λ i f k. h.actions i f (let x = g.actions in omega arith) ∙ g.same_actions i k;
  firsts = g.same_firsts p h.firsts;
}

pub holds-later : (p : Image) (from later : ℕ) (l : Lists) → from ≤ later → Holds p from l → Holds p later l
holds-later p from later l more h = record { values = h.values; actions = λ i f k. h.actions i (omega arith) k; firsts = h.firsts }

-- ---- steps

-- Behind the step the lists have grown, and of its answer R holds in each program that has what it made.
pub record Step {X : Type 0} (m : Making X) (R : Image → X → Type 0) : Type 0 where
  pub grows : (l : Lists) → Grown l (m l).0
  pub reads : (l : Lists) (p : Image) → Holds p (length l.statements) (m l).0 → R p (m l).1

pub step-pure : {X : Type 0} (x : X) (R : Image → X → Type 0) → ((p : Image) → R p x) → Step (pure x) R
step-pure x R r = record { grows = λ l. grown-same l; reads = λ l p h. r p }

pub step-so : {X : Type 0} {m : Making X} {R S : Image → X → Type 0} → ((p : Image) (x : X) → R p x → S p x) → Step m R → Step m S
step-so f s = record { grows = s.grows; reads = λ l p h. f p _ (s.reads l p h) }

-- a step and one behind it
pub step-then : {X Y : Type 0} (m : Making X) (f : X → Making Y) {R : Image → X → Type 0} {S : Image → Y → Type 0}
    → Step m R → ((x : X) → Step (f x) (λ p y. R p x → S p y)) → Step (m >>= f) S
step-then m f s t = record {
  grows = λ l. grown-then l (m l).0 (f (m l).1 (m l).0).0 (s.grows l) ((t (m l).1).grows (m l).0);
  reads = λ l p h. (t (m l).1).reads (m l).0 p (holds-later p _ _ _ (s.grows l).actions h) (s.reads l p (holds-before p _ _ _ ((t (m l).1).grows (m l).0) h));
}

-- ---- values

abbrev pub IsAt : Valuation → Image → ExprNo → Type 0
IsAt v p e = expression_of p.expressions e ≡ v

pub value-step : (v : Valuation) → Step (value_put v) (IsAt v)
unfolding value_put
value-step v = record {
  grows = λ l. record {
    values = let x = length-append l.expressions (v ∷ []) in omega arith;
    same_values = λ i h. get_or_append_left l.expressions (v ∷ []) _ i h;
    actions = omega arith;
    same_actions = λ i h. refl;
    same_firsts = λ p h. h;
  };
  reads = λ l p h. h.values (length l.expressions) (let x = length-append l.expressions (v ∷ []) in omega arith) ∙ get_or-append_seam l.expressions v [] _;
}

-- ---- actions

-- an action of this form stands there, and leads on to what comes next
pub record Stands (f : StatementForm) (to : Option StatementNo) (p : Image) (s : StatementNo) : Type 0 where
  pub form : form_of p s ≡ f
  pub next : next_of p s ≡ to

pub record Put (form : StatementForm) (next : Option StatementNo) (p : Image) (r : Option StatementNo) : Type 0 where
  pub at : StatementNo
  pub is : r ≡ Some at
  pub stands : Stands form next p at

pub stands-as : (form : StatementForm) (signs : ℕ) (next : Option StatementNo) (p : Image) (s : StatementNo)
    → action_at p.statements s.0 ≡ action form signs next → Stands form next p s
stands-as form signs next p s e = record { form = ap (λ a. a.form) e; next = ap (λ a. a.next) e }

pub action-step : (form : StatementForm) (signs : ℕ) (next : Option StatementNo) → Step (action_put form signs next) (Put form next)
unfolding action_put
action-step form signs next = record {
  grows = λ l. record {
    values = omega arith;
    same_values = λ i h. refl;
    actions = let x = length-append l.statements (action form signs next ∷ []) in omega arith;
    same_actions = λ i h. get_or_append_left l.statements (action form signs next ∷ []) _ i h;
    same_firsts = λ p h. h;
  };
  reads = λ l p h. record {
    at = record { 0 = length l.statements };
    is = refl;
    stands = stands-as form signs next p (record { 0 = length l.statements })
        (h.actions (length l.statements) (omega arith) (let x = length-append l.statements (action form signs next ∷ []) in omega arith)
        ∙ get_or-append_seam l.statements (action form signs next) [] _);
  };
}

-- a scope begins with its first action
pub first-step : (scope : ℕ) (first : Option StatementNo) → Step (first_put scope first) (λ p x. first_of_scope p scope ≡ first)
unfolding first_put
first-step scope first = record {
  grows = λ l. record { values = omega arith; same_values = λ i h. refl; actions = omega arith; same_actions = λ i h. refl; same_firsts = λ p h. h.1 };
  reads = λ l p h. h.firsts.0;
}

-- ---- a number that is drawn first, and filled at last

-- what is made between
abbrev pub filled : {X : Type 0} → (StatementNo → Making X) → (StatementNo → X → StatementForm) → ℕ → Option StatementNo → Making (Option StatementNo)
filled k form signs next = reserved >>= (λ s. k s >>= (λ x. put_at s (form s x) signs next))

pub record Filled {X : Type 0} (form : StatementNo → X → StatementForm) (next : Option StatementNo) (R : StatementNo → Image → X → Type 0) (p : Image)
    (r : Option StatementNo) : Type 0 where
  pub at : StatementNo
  pub is : r ≡ Some at
  pub made : X
  pub stands : Stands (form at made) next p at
  pub reads : R at p made

module _ {X : Type 0} (k : StatementNo → Making X) (form : StatementNo → X → StatementForm) (signs : ℕ) (next : Option StatementNo)
    (R : StatementNo → Image → X → Type 0)
    (step : (s : StatementNo) → Step (k s) (R s)) where
  abbrev drawn : Lists → StatementNo
  drawn l = record { 0 = length l.statements }

  abbrev begun : Lists → Lists
  begun l = record l { statements = l.statements ++ no_statement ∷ [] }

  abbrev inside : Lists → Lists × X
  inside l = k (drawn l) (begun l)

  abbrev put : Lists → Action
  put l = action (form (drawn l) (inside l).1) signs next

  one-more : (l : Lists) → length (begun l).statements ≡ length l.statements + 1
  one-more l = length-append l.statements (no_statement ∷ [])

  within-inside : (l : Lists) → length l.statements + 1 ≤ length (inside l).0.statements
  within-inside l = let x = one-more l in let y = ((step (drawn l)).grows (begun l)).actions in omega arith

  other : (i n : ℕ) → i < n → i ≢ n
  other i n h e = omega arith

  behind : (i n : ℕ) → n + 1 ≤ i → i ≢ n
  behind i n h e = omega arith

  pub filled-step : Step (filled k form signs next) (Filled form next R)
  unfolding reserved put_at
  filled-step = record {
    grows = λ l. record {
      values = ((step (drawn l)).grows (begun l)).values;
      same_values = ((step (drawn l)).grows (begun l)).same_values;
      actions = let x = within-inside l in let y = length-set (inside l).0.statements (length l.statements) (put l) in omega arith;
      same_actions = λ i h. get_or-set_other (inside l).0.statements (length l.statements) i (put l) _ (other i (length l.statements) h)
          ∙ ((step (drawn l)).grows (begun l)).same_actions i (let x = one-more l in omega arith)
          ∙ get_or_append_left l.statements (no_statement ∷ []) _ i h;
      same_firsts = ((step (drawn l)).grows (begun l)).same_firsts;
    };
    reads = λ l p h. record {
      at = drawn l;
      is = refl;
      made = (inside l).1;
      stands = stands-as _ signs next p (drawn l)
          (h.actions (length l.statements) (omega arith)
          (let x = within-inside l in let y = length-set (inside l).0.statements (length l.statements) (put l) in omega arith)
          ∙ get_or-set_same (inside l).0.statements (length l.statements) (put l) _ (let x = within-inside l in omega arith));
      reads = (step (drawn l)).reads (begun l) p (record {
        values = h.values;
        actions =
            λ i f u. h.actions i (let x = one-more l in omega arith) (let y = length-set (inside l).0.statements (length l.statements) (put l) in omega arith)
            ∙ get_or-set_other (inside l).0.statements (length l.statements) i (put l) _ (behind i (length l.statements) (let x = one-more l in omega arith));
        firsts = h.firsts;
      });
    };
  }
