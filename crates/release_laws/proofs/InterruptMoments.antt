-- An interrupt that is ahead in the script stays in the account up to its moment, and its handler is released there.
use Rattle.std.proofs.Common.{◌≡◌, ℕ, ℤ, Bool, true, false, cond, not, inl, List, [], ◌∷◌, ◌++◌, refl, sym, ap, subst, ◌∙◌, arith}
use Rattle.std.specs.Prelude.{int_lt, int_le, pos}
use Rattle.std.proofs.lemmas.Int.{ints}
use Rattle.profile_image.specs.declared.image.Image.{Image}
use Rattle.profile_image.specs.declared.script_items.Item.{Item}
use Rattle.profile_image.specs.declared.script_items.Item.TheVariants as item
use Rattle.profile_machine.specs.declared.world.World.{World}
use Rattle.profile_machine.specs.Releases.{NamedHandler, named_handler, handler_list, attached_to, Flags, flags_after, due_by_item, released}
use Rattle.profile_image.specs.Words.{is_flag}
use Rattle.release_laws.specs.ReleaseLaws.{Passage, Account, first_account, account_behind, HistoryOk, items_come}
use Rattle.release_laws.specs.ReleaseLaws.{items_ahead, flags_behind, due_by_items, owed_of_interrupts}
use Rattle.release_laws.specs.MomentLaws.{IsAmong, AllBefore, NoneLater, items_of, InterruptsCome}
use Rattle.release_laws.proofs.RunReleases.{runs_release}
use Rattle.release_laws.proofs.CauseLemmas.{interrupts-stand}
use Rattle.release_laws.proofs.MomentLemmas.{among-front, among-behind, among-one, not_yet}

due_then : (time : ℕ) (a b : ℤ) → int_le a b ≡ true → int_le b (pos time) ≡ true → int_le a (pos time) ≡ true
due_then time a b h k = grind (arith, ints)

module _ (it : ℤ × Item) (last : List (ℤ × Item)) where
  -- before its moment the items of a front are taken, one after another, and nothing behind them
  ahead-where : (time : ℕ) (x : ℤ × Item) (xs : List (ℤ × Item)) (b : Bool) → items_ahead time (xs ++ (it ∷ last)) ≡ items_ahead time xs ++ (it ∷ last)
      → cond b (items_ahead time (xs ++ (it ∷ last))) (x ∷ (xs ++ (it ∷ last))) ≡ cond b (items_ahead time xs) (x ∷ xs) ++ (it ∷ last)
  ahead-where time x xs true k = k
  ahead-where time x xs false k = refl

  front-ahead : (time : ℕ) (g : List (ℤ × Item)) → int_le it.0 (pos time) ≡ false → items_ahead time (g ++ (it ∷ last)) ≡ items_ahead time g ++ (it ∷ last)
  front-ahead time [] e = ap (λ b. cond b (items_ahead time last) (it ∷ last)) e
  front-ahead time (x ∷ xs) e = ahead-where time x xs (int_le x.0 (pos time)) (front-ahead time xs e)

  front-come : (time : ℕ) (g : List (ℤ × Item)) → int_le it.0 (pos time) ≡ false → items_come time (g ++ (it ∷ last)) ≡ items_come time g
  front-come time [] e = ap (λ b. cond b (it.1 ∷ items_come time last) []) e
  front-come time (x ∷ xs) e = ap (λ ys. cond (int_le x.0 (pos time)) (x.1 ∷ ys) []) (front-come time xs e)

  -- at its moment all of the front has come, and it too
  all-come : (time : ℕ) (g : List (ℤ × Item)) → NoneLater it.0 g → int_le it.0 (pos time) ≡ true
      → items_come time (g ++ (it ∷ last)) ≡ items_of g ++ (it.1 ∷ items_come time last)
  all-come time [] l e = ap (λ b. cond b (it.1 ∷ items_come time last) []) e
  all-come time (x ∷ xs) l e =
      ap (λ b. cond b (x.1 ∷ items_come time (xs ++ (it ∷ last))) []) (due_then time x.0 it.0 l.0 e) ∙ ap (λ ys. x.1 ∷ ys) (all-come time xs l.1 e)

-- the flags behind the rest of a front are those behind all of it
flags-where : (time : ℕ) (x : ℤ × Item) (xs : List (ℤ × Item)) (f : Flags) (b : Bool)
    → flags_behind (items_of (items_ahead time xs)) (flags_behind (items_come time xs) (flags_after x.1 f)) ≡ flags_behind (items_of xs) (flags_after x.1 f)
    → flags_behind (items_of (cond b (items_ahead time xs) (x ∷ xs))) (flags_behind (cond b (x.1 ∷ items_come time xs) []) f)
    ≡ flags_behind (items_of (x ∷ xs)) f
flags-where time x xs f true k = k
flags-where time x xs f false k = refl

rest-flags : (time : ℕ) (g : List (ℤ × Item)) (f : Flags)
    → flags_behind (items_of (items_ahead time g)) (flags_behind (items_come time g) f) ≡ flags_behind (items_of g) f
rest-flags time [] f = refl
rest-flags time (x ∷ xs) f = flags-where time x xs f (int_le x.0 (pos time)) (rest-flags time xs (flags_after x.1 f))

later-where : (m : ℤ) (x : ℤ × Item) (xs ys : List (ℤ × Item)) (b : Bool) → NoneLater m ys → NoneLater m (x ∷ xs) → NoneLater m (cond b ys (x ∷ xs))
later-where m x xs ys true h k = h
later-where m x xs ys false h k = k

rest-later : (m : ℤ) (time : ℕ) (g : List (ℤ × Item)) → NoneLater m g → NoneLater m (items_ahead time g)
rest-later m time [] l = tt
rest-later m time (x ∷ xs) l = later-where m x xs (items_ahead time xs) (int_le x.0 (pos time)) (rest-later m time xs l.1) l

-- what the account has ahead: a front, and the interrupt behind it
record Ahead (moment : ℤ) (n : ℕ) (last : List (ℤ × Item)) (flags : Flags) (a : Account) : Type 0 where
  pub front : List (ℤ × Item)
  pub is_ahead : a.ahead ≡ front ++ ((moment, item.Interrupt n) ∷ last)
  pub none_later : NoneLater moment front
  pub flags_there : flags_behind (items_of front) a.flags ≡ flags

module _ (p : Image) (moment : ℤ) (n : ℕ) (last : List (ℤ × Item)) (flags : Flags) where
  abbrev the_item : ℤ × Item
  the_item = (moment, item.Interrupt n)

  stays-ahead : (x : Passage) (a : Account) → int_lt (pos x.before.time) moment ≡ true → Ahead moment n last flags a
      → Ahead moment n last flags (account_behind p a x)
  stays-ahead x a earlier k =
      let time = x.before.time in
      let e = not_yet time moment earlier in
      record {
        front = items_ahead time k.front;
        is_ahead = ap (items_ahead time) k.is_ahead ∙ front-ahead the_item last time k.front e;
        none_later = rest-later moment time k.front k.none_later;
        flags_there =
            ap (λ xs. flags_behind (items_of (items_ahead time k.front)) (flags_behind xs a.flags))
            (ap (items_come time) k.is_ahead ∙ front-come the_item last time k.front e)
            ∙ rest-flags time k.front a.flags ∙ k.flags_there;
      }

  ahead-behind : (before rest : List Passage) (a : Account) → AllBefore moment before → Ahead moment n last flags a → HistoryOk p a (before ++ rest)
      → (b : Account) × Ahead moment n last flags b × HistoryOk p b rest
  ahead-behind [] rest a earlier k law = (a, k, law)
  ahead-behind (x ∷ xs) rest a earlier k law = ahead-behind xs rest (account_behind p a x) earlier.1 (stays-ahead x a earlier.0 k) law.1

-- an item behind others releases its handler with the flags that they leave
among-items : (p : Image) (w : World) (x : NamedHandler) (it : Item) (rest : List Item) (xs : List Item) (f : Flags)
    → IsAmong x (due_by_item p w it (flags_behind xs f)) → IsAmong x (due_by_items p w (xs ++ (it ∷ rest)) f)
among-items p w x it rest [] f h = among-front x (due_by_item p w it f) (due_by_items p w rest (flags_after it f)) h
among-items p w x it rest (y ∷ ys) f h =
    among-behind x (due_by_item p w y f) (due_by_items p w (ys ++ (it ∷ rest)) (flags_after y f)) (among-items p w x it rest ys (flags_after y f) h)

pub interrupts_come : InterruptsCome
interrupts_come p script bound before behind y first last moment n h e comes =
    let flags = flags_behind (items_of first) (first_account script).flags in
    let start : Ahead moment n last flags (first_account script) =
    record { front = first; is_ahead = comes.in_script; none_later = comes.in_order; flags_there = refl } in
    let there =
    ahead-behind p moment n last flags before (y ∷ behind) (first_account script) comes.earlier start
    (subst (HistoryOk p (first_account script)) e (runs_release p script bound)) in
    let a = there.0 in
    let k = there.1 in
    let time = y.before.time in
    let come : items_come time a.ahead ≡ items_of k.front ++ (item.Interrupt n ∷ items_come time last) =
    ap (items_come time) k.is_ahead ∙ all-come (moment, item.Interrupt n) last time k.front k.none_later comes.reached in
    among-one (named_handler p h) (owed_of_interrupts p a y) (released y.lines) (interrupts-stand p a y there.2.0)
    (subst (λ xs. IsAmong (named_handler p h) (due_by_items p y.acted xs a.flags)) (sym come)
    (among-items p y.acted (named_handler p h) (item.Interrupt n) (items_come time last) (items_of k.front) a.flags
    (subst (λ f. IsAmong (named_handler p h) (attached_to p y.acted n (not (is_flag f.masked n)))) (sym k.flags_there)
    (subst (λ b. IsAmong (named_handler p h) (attached_to p y.acted n (not b))) (sym comes.unmasked)
    (subst (λ found. IsAmong (named_handler p h) (handler_list p found)) (sym comes.attached) (inl refl))))))
