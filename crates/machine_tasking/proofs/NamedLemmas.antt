-- The tasks that names give, one name after the other.
use Rattle.std.proofs.Common.{◌≡◌, ℕ, ◌+◌, ◌<◌, List, [], ◌∷◌, ◌++◌, Option, Some, None, Ok, Err}
use Rattle.std.proofs.Common.{length, drop, get_or, append-nil, append_assoc, refl, ap, sym, ◌∙◌}
use Rattle.std.specs.List.{cons_option}
use Rattle.std.proofs.lemmas.List.{drop_more}
use Rattle.ann_base.specs.Results.{◌>>=◌}
use Rattle.ann_base.specs.declared.exceptions.Raised.{Raised}
use Rattle.ann_base.specs.declared.identities.TaskNo.{TaskNo}
use Rattle.profile_image.specs.declared.numbers.DeclNo.{DeclNo}
use Rattle.profile_image.specs.declared.values.Value.{Value}
use Rattle.profile_machine.specs.Operators.{Valued}
use Rattle.profile_machine.specs.Values.{Seen, thing, task_in}
use Rattle.profile_machine.specs.Tasking.{named_tasks}

-- these tasks, and behind them those of a result
abbrev pub behind : List TaskNo → Valued (List TaskNo) → Valued (List TaskNo)
behind tasks result = result >>= λ rest. Ok (tasks ++ rest)

listed : (o : Option TaskNo) (tasks rest : List TaskNo) → tasks ++ cons_option o rest ≡ (tasks ++ cons_option o []) ++ rest
listed None tasks rest = ap (λ xs. xs ++ rest) (sym (append-nil tasks))
listed (Some t) tasks rest = sym (append_assoc tasks (t ∷ []) rest)

one_more : (result : Valued (List TaskNo)) (o : Option TaskNo) (tasks : List TaskNo)
    → behind tasks (result >>= λ rest. Ok (cons_option o rest)) ≡ behind (tasks ++ cons_option o []) result
one_more (Ok rest) o tasks = ap Ok (listed o tasks rest)
one_more (Err e) o tasks = refl

-- the tasks of the names from here on, by the first of them
module _ (q : Seen) (d : DeclNo) (ds : List DeclNo) (tasks : List TaskNo) where
  after_first : Valued Value → Valued (List TaskNo)
  after_first r = behind tasks (r >>= λ x. named_tasks q ds >>= λ rest. Ok (cons_option (task_in x) rest))

  named-more : (v : Value) → thing q d ≡ Ok v → behind tasks (named_tasks q (d ∷ ds)) ≡ behind (tasks ++ cons_option (task_in v) []) (named_tasks q ds)
  unfolding after_first
  named-more v h = ap after_first h ∙ one_more (named_tasks q ds) (task_in v) tasks

  named-raised : (e : Raised) → thing q d ≡ Err e → behind tasks (named_tasks q (d ∷ ds)) ≡ Err e
  unfolding after_first
  named-raised e h = ap after_first h

-- one name more, by its place
module _ (q : Seen) (names : List DeclNo) (i : ℕ) (d : DeclNo) (tasks : List TaskNo) (all : Valued (List TaskNo)) where
  pub named_step : (made : List TaskNo) (v : Value) (o : Option TaskNo) → i < length names → thing q (get_or names i d) ≡ Ok v → o ≡ task_in v
      → made ≡ tasks ++ cons_option o [] → behind tasks (named_tasks q (drop i names)) ≡ all → behind made (named_tasks q (drop (i + 1) names)) ≡ all
  named_step made v o h t k m invariant =
      let onward = λ (xs : List TaskNo). behind xs (named_tasks q (drop (i + 1) names)) in
      ap onward (m ∙ ap (λ x. tasks ++ cons_option x []) k)
      ∙ (sym (named-more q (get_or names i d) (drop (i + 1) names) tasks v t)
      ∙ (ap (λ xs. behind tasks (named_tasks q xs)) (sym (drop_more names i d h)) ∙ invariant))

  pub named_stop : (e : Raised) → i < length names → thing q (get_or names i d) ≡ Err e → behind tasks (named_tasks q (drop i names)) ≡ all → all ≡ Err e
  named_stop e h t invariant =
      sym invariant
      ∙ (ap (λ xs. behind tasks (named_tasks q xs)) (drop_more names i d h)
      ∙ named-raised q (get_or names i d) (drop (i + 1) names) tasks e t)
