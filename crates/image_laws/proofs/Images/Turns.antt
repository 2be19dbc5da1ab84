-- The three actions of a for loop: their numbers are drawn together, its body is made, and they are filled.
use Rattle.std.proofs.Common.{◌≡◌, ◌≢◌, ℕ, ◌+◌, ◌<◌, ◌≤◌, length, List, [], ◌∷◌, ◌++◌, Option, Some, refl, sym, ap, subst, ◌∙◌, arith}
use Rattle.std.proofs.lemmas.List.{length-append, length-set, get_or_append_left, get_or-set_same, get_or-set_other}
use Rattle.std.specs.Prelude.{slice_set}
use Rattle.profile_image.specs.declared.image.Image.{Image}
use Rattle.profile_image.specs.declared.numbers.StatementNo.{StatementNo}
use Rattle.profile_image.specs.declared.statements.Statement.{Statement as Action}
use Rattle.profile_image.specs.declared.statements.StatementForm.{StatementForm}
use Rattle.profile_image.specs.Program.{no_statement}
use Rattle.ada_image.specs.declared.making.Lists.{Lists}
use Rattle.ada_image.specs.Making.{Making, ◌>>=◌, ◌>>◌, action, reserved, put_at}
use Rattle.ada_image.specs.ReadStatements.{later_turn}
use Rattle.image_laws.proofs.Images.Steps.{Step, Grown, Holds, Stands, stands-as, action_at}

abbrev pub turns : {X Y : Type 0} → (StatementNo → StatementNo → Making X) → Making Y → (StatementNo → Y → StatementForm) → (X → StatementForm)
    → (X → StatementForm) → ℕ → Option StatementNo → Making (Option StatementNo)
turns k m form first_form later_form signs next = do
  s ← reserved
  first ← reserved
  later ← reserved
  x ← k s later
  put_at first (first_form x) 0 next
  put_at later (later_form x) 0 next
  y ← m
  put_at s (form first y) signs next

pub record Turning {X Y : Type 0} (form : StatementNo → Y → StatementForm) (first_form later_form : X → StatementForm) (next : Option StatementNo)
    (R : StatementNo → StatementNo → Image → X → Type 0) (S : Image → Y → Type 0) (p : Image) (r : Option StatementNo) : Type 0 where
  pub at : StatementNo
  pub is : r ≡ Some at
  pub first : StatementNo
  pub made : X
  pub values : Y
  pub stands : Stands (form first values) next p at
  pub first_stands : Stands (first_form made) next p first
  pub later_stands : Stands (later_form made) next p (later_turn at)
  pub reads : R at (later_turn at) p made
  pub values_read : S p values

module _ {X Y : Type 0} (k : StatementNo → StatementNo → Making X) (m : Making Y) (form : StatementNo → Y → StatementForm)
    (first_form later_form : X → StatementForm) (signs : ℕ) (next : Option StatementNo)
    (R : StatementNo → StatementNo → Image → X → Type 0) (S : Image → Y → Type 0) (step : (s t : StatementNo) → Step (k s t) (R s t))
    (step_of_values : Step m S) where
  abbrev with_one : List Action → List Action
  with_one ss = ss ++ no_statement ∷ []

  abbrev s_of : Lists → StatementNo
  s_of l = record { 0 = length l.statements }

  abbrev first_of : Lists → StatementNo
  first_of l = record { 0 = length (with_one l.statements) }

  abbrev later_of : Lists → StatementNo
  later_of l = record { 0 = length (with_one (with_one l.statements)) }

  abbrev begun : Lists → Lists
  begun l = record l { statements = with_one (with_one (with_one l.statements)) }

  abbrev inside : Lists → Lists × X
  inside l = k (s_of l) (later_of l) (begun l)

  abbrev first_put : Lists → Lists
  first_put l = record ((inside l).0) { statements = slice_set (inside l).0.statements (first_of l).0 (action (first_form (inside l).1) 0 next) }

  abbrev later_put : Lists → Lists
  later_put l = record (first_put l) { statements = slice_set (first_put l).statements (later_of l).0 (action (later_form (inside l).1) 0 next) }

  abbrev valued : Lists → Lists × Y
  valued l = m (later_put l)

  abbrev all_put : Lists → Lists
  all_put l = record ((valued l).0) { statements = slice_set (valued l).0.statements (s_of l).0 (action (form (first_of l) (valued l).1) signs next) }

  -- ---- how long the lists are

  record Lengths (l : Lists) : Type 0 where
    pub first_is : (first_of l).0 ≡ length l.statements + 1
    pub later_is : (later_of l).0 ≡ length l.statements + 2
    pub begun_is : length (begun l).statements ≡ length l.statements + 3
    pub inside_is : length l.statements + 3 ≤ length (inside l).0.statements
    pub later_put_is : length (later_put l).statements ≡ length (inside l).0.statements
    pub valued_is : length (inside l).0.statements ≤ length (valued l).0.statements
    pub all_put_is : length (all_put l).statements ≡ length (valued l).0.statements

  lengths : (l : Lists) → Lengths l
  lengths l =
      let a = length-append l.statements (no_statement ∷ []) in
      let b = length-append (with_one l.statements) (no_statement ∷ []) in
      let c = length-append (with_one (with_one l.statements)) (no_statement ∷ []) in
      let d = ((step (s_of l) (later_of l)).grows (begun l)).actions in
      let e = length-set (inside l).0.statements (first_of l).0 (action (first_form (inside l).1) 0 next) in
      let f = length-set (first_put l).statements (later_of l).0 (action (later_form (inside l).1) 0 next) in
      let g = (step_of_values.grows (later_put l)).actions in
      let h = length-set (valued l).0.statements (s_of l).0 (action (form (first_of l) (valued l).1) signs next) in
      record {
        first_is = omega arith;
        later_is = omega arith;
        begun_is = omega arith;
        inside_is = omega arith;
        later_put_is = f ∙ e;
        valued_is = omega arith;
        all_put_is = h;
      }

  -- ---- what stands at a place

  apart : (i j : ℕ) → i < j → i ≢ j
  apart i j h e = omega arith

  above : (i j : ℕ) → j < i → i ≢ j
  above i j h e = omega arith

  -- beside s, what was there before the values
  before-values : (l : Lists) (i : ℕ) → i ≢ length l.statements → i < length (inside l).0.statements
      → action_at (all_put l).statements i ≡ action_at (later_put l).statements i
  before-values l i other h =
      get_or-set_other (valued l).0.statements (s_of l).0 i (action (form (first_of l) (valued l).1) signs next) _ other
      ∙ (step_of_values.grows (later_put l)).same_actions i (let x = (lengths l).later_put_is in omega arith)

  -- beside all three, what the body made
  of-inside : (l : Lists) (i : ℕ) → i ≢ length l.statements → i ≢ (first_of l).0 → i ≢ (later_of l).0 → i < length (inside l).0.statements
      → action_at (all_put l).statements i ≡ action_at (inside l).0.statements i
  of-inside l i a b c h =
      before-values l i a h ∙ get_or-set_other (first_put l).statements (later_of l).0 i (action (later_form (inside l).1) 0 next) _ c
      ∙ get_or-set_other (inside l).0.statements (first_of l).0 i (action (first_form (inside l).1) 0 next) _ b

  at-s : (l : Lists) → action_at (all_put l).statements (s_of l).0 ≡ action (form (first_of l) (valued l).1) signs next
  at-s l = get_or-set_same (valued l).0.statements (s_of l).0 _ _ (let x = (lengths l).inside_is in let y = (lengths l).valued_is in omega arith)

  at-later : (l : Lists) → action_at (all_put l).statements (later_of l).0 ≡ action (later_form (inside l).1) 0 next
  at-later l =
      let x = (lengths l).inside_is in
      let y = (lengths l).later_is in let z = length-set (inside l).0.statements (first_of l).0 (action (first_form (inside l).1) 0 next) in
      before-values l (later_of l).0 (above (later_of l).0 (length l.statements) (omega arith)) (omega arith)
      ∙ get_or-set_same (first_put l).statements (later_of l).0 (action (later_form (inside l).1) 0 next) _ (omega arith)

  at-first : (l : Lists) → action_at (all_put l).statements (first_of l).0 ≡ action (first_form (inside l).1) 0 next
  at-first l =
      let x = (lengths l).inside_is in let y = (lengths l).later_is in let z = (lengths l).first_is in
      before-values l (first_of l).0 (above (first_of l).0 (length l.statements) (omega arith)) (omega arith)
      ∙ get_or-set_other (first_put l).statements (later_of l).0 (first_of l).0 (action (later_form (inside l).1) 0 next) _
      (apart (first_of l).0 (later_of l).0 (omega arith))
      ∙ get_or-set_same (inside l).0.statements (first_of l).0 (action (first_form (inside l).1) 0 next) _ (omega arith)

  -- ---- the step

  turns-grown : (l : Lists) → Grown l (all_put l)
  turns-grown l =
      let body = (step (s_of l) (later_of l)).grows (begun l) in
      let values = step_of_values.grows (later_put l) in
      let x = (lengths l).inside_is in let y = (lengths l).valued_is in let z = (lengths l).all_put_is in
      let u = (lengths l).first_is in let v = (lengths l).later_is in let w = (lengths l).begun_is in
      let c = length-append l.statements (no_statement ∷ []) in
      record {
        values = let d = body.values in let e = values.values in omega arith;
        same_values = λ i h. values.same_values i (let d = body.values in omega arith) ∙ body.same_values i h;
        actions = omega arith;
        same_actions = λ i h.
            of-inside l i (apart i (length l.statements) h) (apart i (first_of l).0 (omega arith)) (apart i (later_of l).0 (omega arith)) (omega arith)
            ∙ body.same_actions i (omega arith)
            ∙ get_or_append_left (with_one (with_one l.statements)) (no_statement ∷ []) _ i (omega arith)
            ∙ get_or_append_left (with_one l.statements) (no_statement ∷ []) _ i (omega arith)
            ∙ get_or_append_left l.statements (no_statement ∷ []) _ i h;
        same_firsts = λ p h. body.same_firsts p (values.same_firsts p h);
      }

  turns-read : (l : Lists) (p : Image) → Holds p (length l.statements) (all_put l) → Turning form first_form later_form next R S p (Some (s_of l))
  turns-read l p h =
      let body = (step (s_of l) (later_of l)).grows (begun l) in
      let values = step_of_values.grows (later_put l) in
      let x = (lengths l).inside_is in let y = (lengths l).valued_is in let z = (lengths l).all_put_is in
      let u = (lengths l).first_is in let v = (lengths l).later_is in let w = (lengths l).begun_is in
      let same : later_turn (s_of l) ≡ later_of l = ap (λ n. record { 0 = n }) (sym v) in
      record {
        at = s_of l;
        is = refl;
        first = first_of l;
        made = (inside l).1;
        values = (valued l).1;
        stands = stands-as _ signs next p (s_of l) (h.actions (s_of l).0 (omega arith) (omega arith) ∙ at-s l);
        first_stands = stands-as _ 0 next p (first_of l) (h.actions (first_of l).0 (omega arith) (omega arith) ∙ at-first l);
        later_stands =
            subst (Stands (later_form (inside l).1) next p) (sym same)
            (stands-as _ 0 next p (later_of l) (h.actions (later_of l).0 (omega arith) (omega arith) ∙ at-later l));
        reads = subst (λ t. R (s_of l) t p (inside l).1) (sym same) ((step (s_of l) (later_of l)).reads (begun l) p (record {
          values = λ i f. h.values i (let d = values.values in omega arith) ∙ values.same_values i f;
          actions = λ i f g. h.actions i (omega arith) (omega arith)
              ∙ of-inside l i (above i (length l.statements) (omega arith)) (above i (first_of l).0 (omega arith)) (above i (later_of l).0 (omega arith)) g;
          firsts = values.same_firsts p h.firsts;
        }));
        values_read = step_of_values.reads (later_put l) p (record {
          values = h.values;
          actions = λ i f g. h.actions i (let d = (lengths l).later_put_is in omega arith) (omega arith)
              ∙ get_or-set_other (valued l).0.statements (s_of l).0 i (action (form (first_of l) (valued l).1) signs next) _
              (above i (length l.statements) (let d = (lengths l).later_put_is in omega arith));
          firsts = h.firsts;
        });
      }

  pub turns-step : Step (turns k m form first_form later_form signs next) (Turning form first_form later_form next R S)
  unfolding reserved put_at
  turns-step = record { grows = turns-grown; reads = turns-read }
