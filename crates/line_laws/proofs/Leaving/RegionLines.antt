-- The lines of regions and controlled objects alone, the last first: what they say of each region and object, and that lines
-- which come rightly keep the law of leaving.
use Rattle.std.proofs.Common.{◌≡◌, ℕ, Bool, true, false, cond, not, eqb, ◌&&◌, ◌||◌, List, [], ◌∷◌}
use Rattle.std.proofs.Common.{◌++◌, length, refl, sym, ap, subst, ◌∙◌, eq-eqb, append_assoc, append-nil}
use Rattle.std.specs.List.{list_all}
use Rattle.std.proofs.lemmas.Bool.{and_from, eqb-true, not_from_false, or_left, or_parts, or_right}
use Rattle.trace_text.specs.Laws.{has, is_front_of}
use Rattle.machine_laws.proofs.QueueLemmas.{by_test}

-- a region begins to be left, and has been left; an object is initialized in a region, finalized, and assigned to
pub data Told : Type 0 where
  begun : ℕ → Told
  ended : ℕ → Told
  added : ℕ → ℕ → Told
  finalized : ℕ → Told
  assigned : ℕ → Told

-- ---- what such lines say

abbrev pub leaving : ℕ → List Told → Bool
leaving r [] = false
leaving r (begun q ∷ s) = eqb r q || leaving r s
leaving r (_ ∷ s) = leaving r s

abbrev pub left : ℕ → List Told → Bool
left r [] = false
left r (ended q ∷ s) = eqb r q || left r s
left r (_ ∷ s) = left r s

-- the objects of a region, and the regions of an object, the last first
abbrev pub inits : ℕ → List Told → List ℕ
inits r [] = []
inits r (added o q ∷ s) = cond (eqb r q) (o ∷ inits r s) (inits r s)
inits r (_ ∷ s) = inits r s

abbrev pub regions : ℕ → List Told → List ℕ
regions o [] = []
regions o (added n r ∷ s) = cond (eqb o n) (r ∷ regions o s) (regions o s)
regions o (_ ∷ s) = regions o s

-- the objects of these that were finalized, the first first
abbrev pub finals : List ℕ → List Told → List ℕ
finals objects [] = []
finals objects (finalized o ∷ s) = cond (has o objects) (finals objects s ++ o ∷ []) (finals objects s)
finals objects (_ ∷ s) = finals objects s

abbrev pub final : ℕ → List Told → Bool
final o [] = false
final o (finalized n ∷ s) = eqb o n || final o s
final o (_ ∷ s) = final o s

-- the objects that are not finalized, each with its region, the last first
abbrev pub others : ℕ → List (ℕ × ℕ) → List (ℕ × ℕ)
others o [] = []
others o (x ∷ xs) = cond (eqb o x.0) (others o xs) (x ∷ others o xs)

abbrev pub live : List Told → List (ℕ × ℕ)
live [] = []
live (added o r ∷ s) = (o, r) ∷ live s
live (finalized o ∷ s) = others o (live s)
live (_ ∷ s) = live s

abbrev pub live_in : ℕ → List (ℕ × ℕ) → List ℕ
live_in r [] = []
live_in r (x ∷ xs) = cond (eqb r x.1) (x.0 ∷ live_in r xs) (live_in r xs)

abbrev pub is_live : ℕ → List (ℕ × ℕ) → Bool
is_live o [] = false
is_live o (x ∷ xs) = eqb o x.0 || is_live o xs

-- ---- that a line comes rightly

-- the newest object of a region that is being left is finalized
pub record Finalizes (s : List Told) (o : ℕ) : Type 0 where
  pub region : ℕ
  pub rest : List ℕ
  pub newest : live_in region (live s) ≡ o ∷ rest
  pub leaving : leaving region s ≡ true
  pub not_left : left region s ≡ false

-- Early is what is known of a region in which an object is initialized
abbrev pub Right : (List Told → ℕ → Type 0) → List Told → Told → Type 0
Right Early s (begun r) = leaving r s ≡ false
Right Early s (ended r) = (leaving r s ≡ true) × (left r s ≡ false) × (live_in r (live s) ≡ [])
Right Early s (added o r) = (regions o s ≡ []) × (final o s ≡ false) × Early s r
Right Early s (finalized o) = Finalizes s o
Right Early s (assigned o) = is_live o (live s) ≡ true

abbrev pub NotLeaving : List Told → ℕ → Type 0
NotLeaving s r = leaving r s ≡ false

-- ---- the law of leaving on such lines

abbrev pub is_next : ℕ → List Told → ℕ → Bool
is_next o s r = leaving r s && not (left r s) && is_front_of (finals (inits r s) s ++ o ∷ []) (inits r s)

abbrev pub comes_rightly : List Told → Told → Bool
comes_rightly s (begun r) = not (leaving r s)
comes_rightly s (ended r) = leaving r s && not (left r s) && is_front_of (inits r s) (finals (inits r s) s)
comes_rightly s (added o r) = not (leaving r s) && not (final o s)
comes_rightly s (finalized o) = not (eqb (length (regions o s)) 0) && list_all (is_next o s) (regions o s)
comes_rightly s (assigned o) = not (eqb (length (regions o s)) 0) && not (final o s)

-- ---- what lines that came rightly keep

-- each object that is not finalized has one region, and is not among those behind it
abbrev pub Known : List Told → List (ℕ × ℕ) → Type 0
Known s [] = Unit {0}
Known s (x ∷ xs) = (regions x.0 s ≡ x.1 ∷ []) × (final x.0 s ≡ false) × (is_live x.0 xs ≡ false) × Known s xs

-- the objects of a region are those finalized and those that are not, in this order; none is before the region is being left
pub record Well (s : List Told) : Type 0 where
  pub parts : (r : ℕ) → inits r s ≡ finals (inits r s) s ++ live_in r (live s)
  pub early : (r : ℕ) → leaving r s ≡ false → finals (inits r s) s ≡ []
  pub known : Known s (live s)

pub eqb-sym-false : (a b : ℕ) → eqb a b ≡ false → eqb b a ≡ false
eqb-sym-false a b e =
    by_test (eqb b a)
    (λ t. absurd (let same : eqb a a ≡ false = subst (λ n. eqb a n ≡ false) (eqb-true b a t) e in let yes : eqb a a ≡ true = eq-eqb a a refl in cc)) (λ f. f)

-- ---- facts of these lists

-- an object is among those of a region exactly where the region is among its own
has-step : (o r n q : ℕ) (ns qs : List ℕ) (a b : Bool) → eqb r q ≡ a → eqb o n ≡ b → has o ns ≡ has r qs
    → has o (cond a (n ∷ ns) ns) ≡ has r (cond b (q ∷ qs) qs)
has-step o r n q ns qs true true e f h = ap (λ t. t || has o ns) f ∙ sym (ap (λ t. t || has r qs) e)
has-step o r n q ns qs true false e f h = ap (λ t. t || has o ns) f ∙ h
has-step o r n q ns qs false true e f h = h ∙ sym (ap (λ t. t || has r qs) e)
has-step o r n q ns qs false false e f h = h

pub has-inits : (o r : ℕ) (s : List Told) → has o (inits r s) ≡ has r (regions o s)
has-inits o r [] = refl
has-inits o r (added n q ∷ s) = has-step o r n q (inits r s) (regions o s) (eqb r q) (eqb o n) refl refl (has-inits o r s)
has-inits o r (begun q ∷ s) = has-inits o r s
has-inits o r (ended q ∷ s) = has-inits o r s
has-inits o r (finalized n ∷ s) = has-inits o r s
has-inits o r (assigned n ∷ s) = has-inits o r s

-- an object that was not finalized does not count among these
finals-test : (n : ℕ) (objects fs : List ℕ) (b : Bool) → b ≡ false → cond (b || has n objects) (fs ++ n ∷ []) fs ≡ cond (has n objects) (fs ++ n ∷ []) fs
finals-test n objects fs true e = absurd cc
finals-test n objects fs false e = refl

pub finals-new : (o : ℕ) (objects : List ℕ) (s : List Told) → final o s ≡ false → finals (o ∷ objects) s ≡ finals objects s
finals-new o objects [] e = refl
finals-new o objects (finalized n ∷ s) e =
    let parts = or_parts (eqb o n) (final o s) e in
    ap (λ fs. cond (has n (o ∷ objects)) (fs ++ n ∷ []) fs) (finals-new o objects s parts.1)
    ∙ finals-test n objects (finals objects s) (eqb n o) (eqb-sym-false o n parts.0)
finals-new o objects (begun q ∷ s) e = finals-new o objects s e
finals-new o objects (ended q ∷ s) e = finals-new o objects s e
finals-new o objects (added n q ∷ s) e = finals-new o objects s e
finals-new o objects (assigned n ∷ s) e = finals-new o objects s e

pub front-self : (xs ys : List ℕ) → is_front_of xs (xs ++ ys) ≡ true
front-self [] ys = refl
front-self (x ∷ xs) ys = and_from (eqb x x) (is_front_of xs (xs ++ ys)) (eq-eqb x x refl) (front-self xs ys)

-- ---- an object is taken out of those that are not finalized

others-absent : (o : ℕ) (xs : List (ℕ × ℕ)) → is_live o xs ≡ false → others o xs ≡ xs
others-absent o [] e = refl
others-absent o (x ∷ xs) e =
    let parts = or_parts (eqb o x.0) (is_live o xs) e in
    ap (λ t. cond t (others o xs) (x ∷ others o xs)) parts.0 ∙ ap (λ rest. x ∷ rest) (others-absent o xs parts.1)

absent-step : (n : ℕ) (x : ℕ × ℕ) (left_over : List (ℕ × ℕ)) (b : Bool) → eqb n x.0 ≡ false → is_live n left_over ≡ false
    → is_live n (cond b left_over (x ∷ left_over)) ≡ false
absent-step n x left_over true e h = h
absent-step n x left_over false e h = ap (λ t. t || is_live n left_over) e ∙ h

pub absent-others : (o n : ℕ) (xs : List (ℕ × ℕ)) → is_live n xs ≡ false → is_live n (others o xs) ≡ false
absent-others o n [] e = refl
absent-others o n (x ∷ xs) e =
    let parts = or_parts (eqb n x.0) (is_live n xs) e in absent-step n x (others o xs) (eqb o x.0) parts.0 (absent-others o n xs parts.1)

-- the line behind says nothing else of those that are known
known-step : (o : ℕ) (x : ℕ × ℕ) (s : List Told) (left_over : List (ℕ × ℕ)) (b : Bool) → eqb o x.0 ≡ b → regions x.0 s ≡ x.1 ∷ [] → final x.0 s ≡ false
    → is_live x.0 left_over ≡ false → Known (finalized o ∷ s) left_over → Known (finalized o ∷ s) (cond b left_over (x ∷ left_over))
known-step o x s left_over true e a b c h = h
known-step o x s left_over false e a b c h = (a, ap (λ t. t || final x.0 s) (eqb-sym-false o x.0 e) ∙ b, c, h)

pub known-finalized : (o : ℕ) (s : List Told) (xs : List (ℕ × ℕ)) → Known s xs → Known (finalized o ∷ s) (others o xs)
known-finalized o s [] h = tt
known-finalized o s (x ∷ xs) h = known-step o x s (others o xs) (eqb o x.0) refl h.0 h.1 (absent-others o x.0 xs h.2) (known-finalized o s xs h.3)

pub absent-known : (o : ℕ) (s : List Told) (xs : List (ℕ × ℕ)) → regions o s ≡ [] → Known s xs → is_live o xs ≡ false
absent-known o s [] e h = refl
absent-known o s (x ∷ xs) e h =
    by_test (eqb o x.0)
    (λ t. absurd (let none : regions x.0 s ≡ [] = subst (λ n. regions n s ≡ []) (eqb-true o x.0 t) e in let some : x.1 ∷ [] ≡ [] = sym h.0 ∙ none in cc))
    (λ f. ap (λ t. t || is_live o xs) f ∙ absent-known o s xs e h.3)

pub known-added : (o r : ℕ) (s : List Told) (xs : List (ℕ × ℕ)) → is_live o xs ≡ false → Known s xs → Known (added o r ∷ s) xs
known-added o r s [] e h = tt
known-added o r s (x ∷ xs) e h =
    let parts = or_parts (eqb o x.0) (is_live o xs) e in
    (ap (λ t. cond t (r ∷ regions x.0 s) (regions x.0 s)) (eqb-sym-false o x.0 parts.0) ∙ h.0, h.1, h.2, known-added o r s xs parts.1 h.3)

-- what is said of regions alone
pub known-same : (s t : List Told) (xs : List (ℕ × ℕ)) → ((o : ℕ) → regions o t ≡ regions o s) → ((o : ℕ) → final o t ≡ final o s) → Known s xs → Known t xs
known-same s t [] a b h = tt
known-same s t (x ∷ xs) a b h = (a x.0 ∙ h.0, b x.0 ∙ h.1, h.2, known-same s t xs a b h.3)

-- the newest of a region is one that is known
pub record Newest (s : List Told) (o r : ℕ) (xs : List (ℕ × ℕ)) (rest : List ℕ) : Type 0 where
  pub one : regions o s ≡ r ∷ []
  pub still : live_in r (others o xs) ≡ rest
  pub elsewhere : (q : ℕ) → eqb q r ≡ false → live_in q (others o xs) ≡ live_in q xs

same_head : (a b : ℕ) (ms ns : List ℕ) → a ∷ ms ≡ b ∷ ns → (a ≡ b) × (ms ≡ ns)
same_head a b ms ns e = (cc, cc)

newest-here : (s : List Told) (o r : ℕ) (x : ℕ × ℕ) (xs : List (ℕ × ℕ)) (rest : List ℕ) → Known s (x ∷ xs) → eqb r x.1 ≡ true → x.0 ≡ o → live_in r xs ≡ rest
    → Newest s o r (x ∷ xs) rest
newest-here s o r x xs rest h here is e =
    let same : r ≡ x.1 = eqb-true r x.1 here in
    let out : others o (x ∷ xs) ≡ xs =
    ap (λ t. cond t (others o xs) (x ∷ others o xs)) (eq-eqb o x.0 (sym is)) ∙ others-absent o xs (subst (λ n. is_live n xs ≡ false) is h.2) in
    record {
      one = subst (λ n. regions n s ≡ r ∷ []) is (h.0 ∙ ap (λ q. q ∷ []) (sym same));
      still = ap (live_in r) out ∙ e;
      elsewhere = λ q differs. ap (live_in q) out ∙ sym (ap (λ t. cond t (x.0 ∷ live_in q xs) (live_in q xs)) (subst (λ m. eqb q m ≡ false) same differs));
    }

behind-live : (s : List Told) (o : ℕ) (x : ℕ × ℕ) (xs : List (ℕ × ℕ)) → is_live x.0 xs ≡ false → is_live o xs ≡ true → eqb o x.0 ≡ false
behind-live s o x xs e t =
    by_test (eqb o x.0)
    (λ y. absurd (let no : is_live o xs ≡ false = subst (λ n. is_live n xs ≡ false) (sym (eqb-true o x.0 y)) e in let never : true ≡ false = sym t ∙ no in cc))
    (λ f. f)

pub newest-live : (r o : ℕ) (xs : List (ℕ × ℕ)) (rest : List ℕ) → live_in r xs ≡ o ∷ rest → is_live o xs ≡ true
newest-live r o [] rest e = absurd cc
newest-live r o (x ∷ xs) rest e =
    by_test (eqb r x.1)
    (λ t. let shown : x.0 ∷ live_in r xs ≡ o ∷ rest = sym (ap (λ c. cond c (x.0 ∷ live_in r xs) (live_in r xs)) t) ∙ e in
    or_left (eqb o x.0) (is_live o xs) (eq-eqb o x.0 (sym (same_head x.0 o (live_in r xs) rest shown).0)))
    (λ f. or_right (eqb o x.0) (is_live o xs) (newest-live r o xs rest (sym (ap (λ c. cond c (x.0 ∷ live_in r xs) (live_in r xs)) f) ∙ e)))

pub newest-known : (s : List Told) (o r : ℕ) (xs : List (ℕ × ℕ)) (rest : List ℕ) → Known s xs → live_in r xs ≡ o ∷ rest → Newest s o r xs rest
newest-known s o r [] rest h e = absurd cc
newest-known s o r (x ∷ xs) rest h e =
    by_test (eqb r x.1)
    (λ t. let shown : x.0 ∷ live_in r xs ≡ o ∷ rest = sym (ap (λ c. cond c (x.0 ∷ live_in r xs) (live_in r xs)) t) ∙ e in
    let heads = same_head x.0 o (live_in r xs) rest shown in
    newest-here s o r x xs rest h t heads.0 heads.1)
    (λ f. let below : live_in r xs ≡ o ∷ rest = sym (ap (λ c. cond c (x.0 ∷ live_in r xs) (live_in r xs)) f) ∙ e in
    let more = newest-known s o r xs rest h.3 below in
    let apart : eqb o x.0 ≡ false = behind-live s o x xs h.2 (newest-live r o xs rest below) in
    let out : others o (x ∷ xs) ≡ x ∷ others o xs = ap (λ c. cond c (others o xs) (x ∷ others o xs)) apart in
    record {
      one = more.one;
      still = ap (live_in r) out ∙ ap (λ c. cond c (x.0 ∷ live_in r (others o xs)) (live_in r (others o xs))) f ∙ more.still;
      elsewhere = λ q differs. ap (live_in q) out ∙ ap (λ ys. cond (eqb q x.1) (x.0 ∷ ys) ys) (more.elsewhere q differs);
    })

-- ---- a line that comes rightly keeps all this

pub well_first : Well []
well_first = record { parts = λ r. refl; early = λ r e. refl; known = tt }

begun-early : (r q : ℕ) (s : List Told) → (leaving r s ≡ false → finals (inits r s) s ≡ []) → (eqb r q || leaving r s) ≡ false → finals (inits r s) s ≡ []
begun-early r q s k e = k (or_parts (eqb r q) (leaving r s) e).1

added-parts : (o r q : ℕ) (s : List Told) → Well s → final o s ≡ false → leaving r s ≡ false → (test : Bool) → eqb q r ≡ test
    → cond test (o ∷ inits q s) (inits q s) ≡ finals (cond test (o ∷ inits q s) (inits q s)) s ++ cond test (o ∷ live_in q (live s)) (live_in q (live s))
added-parts o r q s w new early true is =
    let same : q ≡ r = eqb-true q r is in
    let none : finals (inits q s) s ≡ [] = w.early q (subst (λ m. leaving m s ≡ false) (sym same) early) in
    let now : finals (o ∷ inits q s) s ≡ [] = finals-new o (inits q s) s new ∙ none in
    ap (λ xs. o ∷ xs) (w.parts q ∙ ap (λ xs. xs ++ live_in q (live s)) none) ∙ sym (ap (λ xs. xs ++ o ∷ live_in q (live s)) now)
added-parts o r q s w new early false is = w.parts q

added-early : (o r q : ℕ) (s : List Told) → Well s → final o s ≡ false → leaving q s ≡ false → (test : Bool)
    → finals (cond test (o ∷ inits q s) (inits q s)) s ≡ []
added-early o r q s w new early true = finals-new o (inits q s) s new ∙ w.early q early
added-early o r q s w new early false = w.early q early

-- the object is one of its own region, and of no other
has-own : (o r q : ℕ) (s : List Told) → regions o s ≡ r ∷ [] → has o (inits q s) ≡ (eqb q r || false)
has-own o r q s one = has-inits o q s ∙ ap (has q) one

finalized-parts : (o q : ℕ) (s : List Told) (f : Finalizes s o) → Well s → Newest s o f.region (live s) f.rest → (test : Bool) → eqb q f.region ≡ test
    → inits q s ≡ cond (has o (inits q s)) (finals (inits q s) s ++ o ∷ []) (finals (inits q s) s) ++ live_in q (others o (live s))
finalized-parts o q s f w n true is =
    let same : q ≡ f.region = eqb-true q f.region is in
    let here : has o (inits q s) ≡ true = has-own o f.region q s n.one ∙ ap (λ t. t || false) is in
    let shown : live_in q (live s) ≡ o ∷ f.rest = ap (λ m. live_in m (live s)) same ∙ f.newest in
    let behind : live_in q (others o (live s)) ≡ f.rest = ap (λ m. live_in m (others o (live s))) same ∙ n.still in
    w.parts q ∙ ap (λ xs. finals (inits q s) s ++ xs) shown ∙ sym (append_assoc (finals (inits q s) s) (o ∷ []) f.rest)
    ∙ sym (ap (λ xs. (finals (inits q s) s ++ o ∷ []) ++ xs) behind)
    ∙ sym (ap (λ t. cond t (finals (inits q s) s ++ o ∷ []) (finals (inits q s) s) ++ live_in q (others o (live s))) here)
finalized-parts o q s f w n false is =
    let here : has o (inits q s) ≡ false = has-own o f.region q s n.one ∙ ap (λ t. t || false) is in
    w.parts q ∙ sym (ap (λ xs. finals (inits q s) s ++ xs) (n.elsewhere q is))
    ∙ sym (ap (λ t. cond t (finals (inits q s) s ++ o ∷ []) (finals (inits q s) s) ++ live_in q (others o (live s))) here)

finalized-early : (o q : ℕ) (s : List Told) (f : Finalizes s o) → Well s → Newest s o f.region (live s) f.rest → leaving q s ≡ false → (test : Bool)
    → eqb q f.region ≡ test
    → cond (has o (inits q s)) (finals (inits q s) s ++ o ∷ []) (finals (inits q s) s) ≡ []
finalized-early o q s f w n e true is =
    absurd
    (let no : leaving f.region s ≡ false = subst (λ m. leaving m s ≡ false) (eqb-true q f.region is) e in let never : true ≡ false = sym f.leaving ∙ no in cc)
finalized-early o q s f w n e false is =
    let here : has o (inits q s) ≡ false = has-own o f.region q s n.one ∙ ap (λ t. t || false) is in
    ap (λ t. cond t (finals (inits q s) s ++ o ∷ []) (finals (inits q s) s)) here ∙ w.early q e

pub well-next : (s : List Told) (e : Told) → Well s → Right NotLeaving s e → Well (e ∷ s)
well-next s (begun r) w h = record {
  parts = w.parts;
  early = λ q e. begun-early q r s (w.early q) e;
  known = known-same s (begun r ∷ s) (live s) (λ o. refl) (λ o. refl) w.known;
}
well-next s (ended r) w h = record {
  parts = w.parts;
  early = w.early;
  known = known-same s (ended r ∷ s) (live s) (λ o. refl) (λ o. refl) w.known;
}
well-next s (added o r) w h = record {
  parts = λ q. added-parts o r q s w h.1 h.2 (eqb q r) refl;
  early = λ q e. added-early o r q s w h.1 e (eqb q r);
  known = (
    ap (λ t. cond t (r ∷ regions o s) (regions o s)) (eq-eqb o o refl) ∙ ap (λ xs. r ∷ xs) h.0,
    h.1,
    absent-known o s (live s) h.0 w.known,
    known-added o r s (live s) (absent-known o s (live s) h.0 w.known) w.known,
  );
}
well-next s (finalized o) w h =
    let n = newest-known s o h.region (live s) h.rest w.known h.newest in
    record {
      parts = λ q. finalized-parts o q s h w n (eqb q h.region) refl;
      early = λ q e. finalized-early o q s h w n e (eqb q h.region) refl;
      known = known-finalized o s (live s) w.known;
    }
well-next s (assigned o) w h = record {
  parts = w.parts;
  early = w.early;
  known = known-same s (assigned o ∷ s) (live s) (λ n. refl) (λ n. refl) w.known;
}

-- ---- and keeps the law

-- a list and the same list
front-of_same : (xs ys : List ℕ) → xs ≡ ys → is_front_of xs ys ≡ true
front-of_same xs ys e = subst (λ zs. is_front_of xs zs ≡ true) (append-nil xs ∙ e) (front-self xs [])

pub record OneRegion (s : List Told) (o : ℕ) : Type 0 where
  pub region : ℕ
  pub one : regions o s ≡ region ∷ []
  pub not_final : final o s ≡ false

pub live-one : (s : List Told) (o : ℕ) (xs : List (ℕ × ℕ)) → Known s xs → is_live o xs ≡ true → OneRegion s o
live-one s o [] h e = absurd cc
live-one s o (x ∷ xs) h e =
    by_test (eqb o x.0)
    (λ t. let same : o ≡ x.0 = eqb-true o x.0 t in record { region = x.1; one = ap (λ n. regions n s) same ∙ h.0; not_final = ap (λ n. final n s) same ∙ h.1 })
    (λ f. live-one s o xs h.3 (sym (ap (λ t. t || is_live o xs) f) ∙ e))

next-right : (s : List Told) (o : ℕ) (f : Finalizes s o) → Well s → is_next o s f.region ≡ true
next-right s o f w =
    let q = f.region in
    let shown : inits q s ≡ (finals (inits q s) s ++ o ∷ []) ++ f.rest =
    w.parts q ∙ ap (λ xs. finals (inits q s) s ++ xs) f.newest ∙ sym (append_assoc (finals (inits q s) s) (o ∷ []) f.rest) in
    and_from (leaving q s && not (left q s)) _ (and_from (leaving q s) (not (left q s)) f.leaving (not_from_false (left q s) f.not_left))
    (subst (λ xs. is_front_of (finals (inits q s) s ++ o ∷ []) xs ≡ true) (sym shown) (front-self (finals (inits q s) s ++ o ∷ []) f.rest))

pub rightly : (s : List Told) (e : Told) → Well s → Right NotLeaving s e → comes_rightly s e ≡ true
rightly s (begun r) w h = not_from_false (leaving r s) h
rightly s (ended r) w h =
    and_from (leaving r s && not (left r s)) _ (and_from (leaving r s) (not (left r s)) h.0 (not_from_false (left r s) h.1))
    (front-of_same (inits r s) (finals (inits r s) s) (w.parts r ∙ ap (λ xs. finals (inits r s) s ++ xs) h.2 ∙ append-nil (finals (inits r s) s)))
rightly s (added o r) w h = and_from (not (leaving r s)) _ (not_from_false (leaving r s) h.2) (not_from_false (final o s) h.1)
rightly s (finalized o) w h =
    let n = newest-known s o h.region (live s) h.rest w.known h.newest in
    subst (λ rs. (not (eqb (length rs) 0) && list_all (is_next o s) rs) ≡ true) (sym n.one) (and_from (is_next o s h.region) true (next-right s o h w) refl)
rightly s (assigned o) w h =
    let k = live-one s o (live s) w.known h in
    and_from (not (eqb (length (regions o s)) 0)) _ (ap (λ rs. not (eqb (length rs) 0)) k.one) (not_from_false (final o s) k.not_final)
