-- The ready queues that lines show: who is found there, who stands before whom, and who is first, where no entry has a
-- deadline.
use Rattle.std.proofs.Common.{◌≡◌, ℕ, ℤ, ◌<◌, ◌≤◌, ◌⊎◌, ◌==◌, Bool, true, false, not, cond, ◌&&◌, ◌||◌, ltb, List}
use Rattle.std.proofs.Common.{[], ◌∷◌, ◌++◌, Option, Some, None, is_some, refl, sym, ap, subst, ◌∙◌, arith, inl, inr}
use Rattle.std.proofs.lemmas.Bool.{cases_Bool, cases_lt, eq-eqb, eqb-true, ltb-false, ltb-true}
use Rattle.trace_text.specs.declared.events.Entry.{Entry}
use Rattle.trace_text.specs.declared.events.Who.{Who}
use Rattle.trace_text.specs.declared.events.Who.TheVariants as subject
use Rattle.trace_text.specs.Queue.{entry_of, first_of, goes_before, head_of, is_earlier, who_eq, without}

-- ---- who is who

pub who_is : (a b : Who) → who_eq a b ≡ true → a ≡ b
who_is (subject.Task a) (subject.Task b) e = ap (λ (n : ℕ). subject.Task (record { 0 = n })) (eqb-true a.0 b.0 e)
who_is (subject.Task a) subject.Agent e = cc
who_is subject.Agent (subject.Task b) e = cc
who_is subject.Agent subject.Agent e = refl

pub who_same : (a : Who) → who_eq a a ≡ true
who_same (subject.Task a) = eq-eqb a.0 a.0 refl
who_same subject.Agent = refl

pub is_who : (a b : Who) → a ≡ b → who_eq a b ≡ true
is_who a b e = subst (λ c. who_eq a c ≡ true) e (who_same a)

-- in the other order
pub not_who : (a b : Who) → who_eq a b ≡ false → who_eq b a ≡ false
not_who a b e = elim (cases_Bool (who_eq b a)) [
  | inl same ↦ let wrong : true ≡ false = sym (is_who a b (sym (who_is b a same))) ∙ e in cc
  | inr other ↦ other
]

pub cases_who : (a b : Who) → (a ≡ b) ⊎ (who_eq a b ≡ false)
cases_who a b = elim (cases_Bool (who_eq a b)) [ inl same ↦ inl (who_is a b same) | inr other ↦ inr other ]

-- a third one is another than the second, where the first is the second
pub other_than : (a b c : Who) → who_eq a b ≡ true → who_eq c a ≡ false → who_eq c b ≡ false
other_than a b c same other = subst (λ x. who_eq c x ≡ false) (who_is a b same) other

-- ---- who is found

pub found_at : (u : Who) (e : Entry) (q : List Entry) → who_eq u e.who ≡ true → entry_of u (e ∷ q) ≡ Some e
found_at u e q same = ap (λ b. cond b (Some e) (entry_of u q)) same

pub found_behind : (u : Who) (e : Entry) (q : List Entry) → who_eq u e.who ≡ false → entry_of u (e ∷ q) ≡ entry_of u q
found_behind u e q other = ap (λ b. cond b (Some e) (entry_of u q)) other

pub without_at : (w : Who) (e : Entry) (q : List Entry) → who_eq w e.who ≡ true → without w (e ∷ q) ≡ without w q
without_at w e q same = ap (λ b. cond b (without w q) (e ∷ without w q)) same

pub without_behind : (w : Who) (e : Entry) (q : List Entry) → who_eq w e.who ≡ false → without w (e ∷ q) ≡ e ∷ without w q
without_behind w e q other = ap (λ b. cond b (without w q) (e ∷ without w q)) other

pub found-without : (u w : Who) (q : List Entry) → who_eq u w ≡ false → entry_of u (without w q) ≡ entry_of u q
found-without u w [] other = refl
found-without u w (e ∷ q) other = elim (cases_Bool (who_eq w e.who)) [
  | inl same ↦ ap (entry_of u) (without_at w e q same) ∙ found-without u w q other ∙ sym (found_behind u e q (other_than w e.who u same other))
  | inr differs ↦ ap (entry_of u) (without_behind w e q differs) ∙ ap (λ o. cond (who_eq u e.who) (Some e) o) (found-without u w q other)
]

pub found-without-same : (w : Who) (q : List Entry) → entry_of w (without w q) ≡ None
found-without-same w [] = refl
found-without-same w (e ∷ q) = elim (cases_Bool (who_eq w e.who)) [
  | inl same ↦ ap (entry_of w) (without_at w e q same) ∙ found-without-same w q
  | inr differs ↦ ap (entry_of w) (without_behind w e q differs) ∙ found_behind w e (without w q) differs ∙ found-without-same w q
]

pub found-append : (u : Who) (q : List Entry) (e : Entry) → who_eq u e.who ≡ false → entry_of u (q ++ e ∷ []) ≡ entry_of u q
found-append u [] e other = found_behind u e [] other
found-append u (x ∷ q) e other = ap (λ o. cond (who_eq u x.who) (Some x) o) (found-append u q e other)

pub found-last : (u : Who) (q : List Entry) (e : Entry) → entry_of u q ≡ None → who_eq u e.who ≡ true → entry_of u (q ++ e ∷ []) ≡ Some e
found-last u [] e none same = found_at u e [] same
found-last u (x ∷ q) e none same = elim (cases_Bool (who_eq u x.who)) [
  | inl here ↦ let wrong : Some x ≡ None = sym (found_at u x q here) ∙ none in cc
  | inr differs ↦ found_behind u x (q ++ e ∷ []) differs ∙ found-last u q e (sym (found_behind u x q differs) ∙ none) same
]

-- ---- everybody once

abbrev pub Once : List Entry → Type 0
Once [] = Unit {0}
Once (e ∷ q) = (entry_of e.who q ≡ None) × Once q

none-without : (u w : Who) (q : List Entry) → entry_of u q ≡ None → entry_of u (without w q) ≡ None
none-without u w q none = elim (cases_who u w) [
  | inl same ↦ subst (λ x. entry_of u (without x q) ≡ None) same (found-without-same u q)
  | inr other ↦ found-without u w q other ∙ none
]

pub Once-without : (w : Who) (q : List Entry) → Once q → Once (without w q)
Once-without w [] once = tt
Once-without w (e ∷ q) once = elim (cases_Bool (who_eq w e.who)) [
  | inl same ↦ subst Once (sym (without_at w e q same)) (Once-without w q once.1)
  | inr differs ↦ subst Once (sym (without_behind w e q differs)) (none-without e.who w q once.0, Once-without w q once.1)
]

pub Once-append : (q : List Entry) (e : Entry) → Once q → entry_of e.who q ≡ None → Once (q ++ e ∷ [])
Once-append [] e once none = (refl, tt)
Once-append (x ∷ q) e once none = elim (cases_Bool (who_eq e.who x.who)) [
  | inl same ↦ let wrong : Some x ≡ None = sym (found_at e.who x q same) ∙ none in cc
  | inr differs ↦ (found-append x.who q e (not_who e.who x.who differs) ∙ once.0, Once-append q e once.1 (sym (found_behind e.who x q differs) ∙ none))
]

-- ---- who stands before whom

-- the first of the two that is met is the first one
abbrev pub precedes : Who → Who → List Entry → Bool
precedes v u [] = false
precedes v u (e ∷ q) = who_eq v e.who || (not (who_eq u e.who) && precedes v u q)

pub precedes_at : (v u : Who) (e : Entry) (q : List Entry) → who_eq v e.who ≡ true → precedes v u (e ∷ q) ≡ true
precedes_at v u e q same = ap (λ b. b || (not (who_eq u e.who) && precedes v u q)) same

pub precedes_behind : (v u : Who) (e : Entry) (q : List Entry) → who_eq v e.who ≡ false → who_eq u e.who ≡ false → precedes v u (e ∷ q) ≡ precedes v u q
precedes_behind v u e q other differs =
    ap (λ b. b || (not (who_eq u e.who) && precedes v u q)) other ∙ ap (λ b. false || (not b && precedes v u q)) differs

pub precedes_not : (v u : Who) (e : Entry) (q : List Entry) → who_eq v e.who ≡ false → who_eq u e.who ≡ true → precedes v u (e ∷ q) ≡ false
precedes_not v u e q other same =
    ap (λ b. b || (not (who_eq u e.who) && precedes v u q)) other ∙ ap (λ b. false || (not b && precedes v u q)) same

pub precedes-without : (v u w : Who) (q : List Entry) → who_eq v w ≡ false → who_eq u w ≡ false → precedes v u q ≡ true → precedes v u (without w q) ≡ true
precedes-without v u w [] other differs before = before
precedes-without v u w (e ∷ q) other differs before = elim (cases_Bool (who_eq w e.who)) [
  | inl same ↦ subst (λ x. precedes v u x ≡ true) (sym (without_at w e q same))
      (precedes-without v u w q other differs (sym (precedes_behind v u e q (other_than w e.who v same other) (other_than w e.who u same differs)) ∙ before))
  | inr here ↦ subst (λ x. precedes v u x ≡ true) (sym (without_behind w e q here)) (elim (cases_Bool (who_eq v e.who)) [
    | inl same ↦ precedes_at v u e (without w q) same
    | inr behind ↦ elim (cases_Bool (who_eq u e.who)) [
      | inl later ↦ let wrong : false ≡ true = sym (precedes_not v u e q behind later) ∙ before in cc
      | inr on ↦ precedes_behind v u e (without w q) behind on ∙ precedes-without v u w q other differs (sym (precedes_behind v u e q behind on) ∙ before)
    ]
  ])
]

pub precedes-append : (v u : Who) (q : List Entry) (e : Entry) → precedes v u q ≡ true → precedes v u (q ++ e ∷ []) ≡ true
precedes-append v u [] e before = cc
precedes-append v u (x ∷ q) e before = elim (cases_Bool (who_eq v x.who)) [
  | inl same ↦ precedes_at v u x (q ++ e ∷ []) same
  | inr behind ↦ elim (cases_Bool (who_eq u x.who)) [
    | inl later ↦ let wrong : false ≡ true = sym (precedes_not v u x q behind later) ∙ before in cc
    | inr on ↦ precedes_behind v u x (q ++ e ∷ []) behind on ∙ precedes-append v u q e (sym (precedes_behind v u x q behind on) ∙ before)
  ]
]

-- who is there stands before one that is not, and comes to the end
pub precedes-last : (v u : Who) (q : List Entry) (e f : Entry) → entry_of v q ≡ Some e → entry_of u q ≡ None → precedes v u (q ++ f ∷ []) ≡ true
precedes-last v u [] e f there none = cc
precedes-last v u (x ∷ q) e f there none = elim (cases_Bool (who_eq v x.who)) [
  | inl same ↦ precedes_at v u x (q ++ f ∷ []) same
  | inr behind ↦ elim (cases_Bool (who_eq u x.who)) [
    | inl here ↦ let wrong : Some x ≡ None = sym (found_at u x q here) ∙ none in cc
    | inr on ↦
        precedes_behind v u x (q ++ f ∷ []) behind on ∙ precedes-last v u q e f (sym (found_behind v x q behind) ∙ there) (sym (found_behind u x q on) ∙ none)
  ]
]

-- two of whom each stands before the other are one
pub precedes-both : (v u : Who) (q : List Entry) → who_eq v u ≡ false → precedes v u q ≡ true → precedes u v q ≡ true → false ≡ true
precedes-both v u [] other before after = before
precedes-both v u (x ∷ q) other before after = elim (cases_Bool (who_eq v x.who)) [
  | inl same ↦
      let differs : who_eq u x.who ≡ false = other_than v x.who u same (not_who v u other) in
      sym (precedes_not u v x q differs same) ∙ after
  | inr behind ↦ elim (cases_Bool (who_eq u x.who)) [
    | inl same ↦ sym (precedes_not v u x q behind same) ∙ before
    | inr on ↦ precedes-both v u q other (sym (precedes_behind v u x q behind on) ∙ before) (sym (precedes_behind u v x q on behind) ∙ after)
  ]
]

-- ---- who is first

-- Another stands lower than the first; or at its level, where the first has a deadline, or neither has one and the first
-- stands before it.
abbrev pub IsUnder : Entry → Who → Entry → List Entry → Type 0
IsUnder h u e q = (e.level < h.level) ⊎ ((e.level ≡ h.level) × ((is_some h.deadline ≡ true) ⊎ ((e.deadline ≡ None) × (precedes h.who u q ≡ true))))

pub record Heads (h : Entry) (q : List Entry) : Type 0 where
  pub there : entry_of h.who q ≡ Some h
  pub first : (u : Who) (e : Entry) → who_eq u h.who ≡ false → entry_of u q ≡ Some e → IsUnder h u e q

pub cases_date : (d : Option ℤ) → (d ≡ None) ⊎ (is_some d ≡ true)
cases_date None = inl refl
cases_date (Some d) = inr refl

earlier_dated : (d e : Option ℤ) → is_earlier d e ≡ true → is_some d ≡ true
earlier_dated None e h = cc
earlier_dated (Some d) e h = refl

dated_earlier : (d : Option ℤ) → is_some d ≡ true → is_earlier d None ≡ true
dated_earlier None h = cc
dated_earlier (Some d) h = refl

one_of : (a b c : Bool) → (a || (b && c)) ≡ true → (a ≡ true) ⊎ ((b ≡ true) × (c ≡ true))
one_of true b c e = inl refl
one_of false true true e = inr (refl, refl)
one_of false true false e = cc
one_of false false c e = cc

neither_of : (a b c : Bool) → (a || (b && c)) ≡ false → (a ≡ false) × (b ≡ true → c ≡ false)
neither_of true b c e = cc
neither_of false true c e = (refl, λ h. e)
neither_of false false c e = (refl, λ h. cc)

-- what goes before another stands higher, or has a deadline
goes_over : (a b : Entry) → goes_before a b ≡ true → (b.level < a.level) ⊎ ((b.level ≡ a.level) × (is_some a.deadline ≡ true))
goes_over a b goes = elim (one_of (ltb b.level a.level) (a.level == b.level) (is_earlier a.deadline b.deadline) goes) [
  | inl below ↦ inl (ltb-true b.level a.level below)
  | inr tied ↦ inr (sym (eqb-true a.level b.level tied.0), earlier_dated a.deadline b.deadline tied.1)
]

-- what does not stands lower, or at the same level, and where the other has no deadline it has none
stays_under : (a b : Entry) → goes_before a b ≡ false → (a.level < b.level) ⊎ ((a.level ≡ b.level) × (b.deadline ≡ None → a.deadline ≡ None))
stays_under a b stays =
    let parts = neither_of (ltb b.level a.level) (a.level == b.level) (is_earlier a.deadline b.deadline) stays in
    elim (cases_lt a.level b.level) [
      | inl below ↦ inl below
      | inr at ↦
          let same : a.level ≡ b.level = omega (arith, at, ltb-false b.level a.level parts.0) in
          inr (
            same,
            λ none. elim (cases_date a.deadline) [
              | inl own ↦ own
              | inr dated ↦
                  let later : is_earlier a.deadline b.deadline ≡ false = parts.1 (eq-eqb a.level b.level same) in
                  let wrong : true ≡ false = sym (dated_earlier a.deadline dated) ∙ sym (ap (is_earlier a.deadline) none) ∙ later in
                  cc
            ],
          )
    ]

alone : (x h : Entry) → Some x ≡ Some h → Heads h (x ∷ [])
alone x h same =
    let is : x ≡ h = cc in
    subst (λ y. Heads y (x ∷ [])) is (record {
      there = found_at x.who x [] (who_same x.who);
      first = λ u e other found. let wrong : None ≡ Some e = sym (found_behind u x [] other) ∙ found in cc;
    })

-- the first of the rest goes before who stands before it
over : (x o : Entry) (q : List Entry) → entry_of x.who q ≡ None → Heads o q → (x.level < o.level) ⊎ ((x.level ≡ o.level) × (is_some o.deadline ≡ true))
    → Heads o (x ∷ q)
over x o q none rest above =
    let another : who_eq o.who x.who ≡ false = elim (cases_who o.who x.who) [
      | inl same ↦ let wrong : Some o ≡ None = sym rest.there ∙ subst (λ w. entry_of w q ≡ None) (sym same) none in cc
      | inr differs ↦ differs
    ] in
    record {
      there = found_behind o.who x q another ∙ rest.there;
      first = λ u e other found. elim (cases_Bool (who_eq u x.who)) [
        | inl same ↦
            let here : Some x ≡ Some e = sym (found_at u x q same) ∙ found in
            let is : x ≡ e = cc in
            subst (λ y. IsUnder o u y (x ∷ q)) is (elim above [ inl below ↦ inl below | inr tied ↦ inr (tied.0, inl tied.1) ])
        | inr on ↦ elim (rest.first u e other (sym (found_behind u x q on) ∙ found)) [
          | inl below ↦ inl below
          | inr at ↦ inr (at.0, elim at.1 [ inl dated ↦ inl dated | inr both ↦ inr (both.0, precedes_behind o.who u x q another on ∙ both.1) ])
        ]
      ];
    }

tied_under : (x : Entry) (u : Who) (e : Entry) (q : List Entry) → e.level ≡ x.level → (x.deadline ≡ None → e.deadline ≡ None) → IsUnder x u e (x ∷ q)
tied_under x u e q same none = inr (
  same,
  elim (cases_date x.deadline) [
    | inr dated ↦ inl dated
    | inl own ↦ inr (none own, precedes_at x.who u x q (who_same x.who))
  ],
)

-- it does not
under : (x o : Entry) (q : List Entry) → Heads o q → (o.level < x.level) ⊎ ((o.level ≡ x.level) × (x.deadline ≡ None → o.deadline ≡ None)) → Heads x (x ∷ q)
under x o q rest stays = record {
  there = found_at x.who x q (who_same x.who);
  first = λ u e other found.
      let behind : entry_of u q ≡ Some e = sym (found_behind u x q other) ∙ found in
      elim (cases_who u o.who) [
        | inl same ↦
            let both : Some o ≡ Some e = sym rest.there ∙ subst (λ w. entry_of w q ≡ Some e) same behind in
            let is : o ≡ e = cc in
            subst (λ y. IsUnder x u y (x ∷ q)) is (elim stays [ inl below ↦ inl below | inr tied ↦ tied_under x u o q tied.0 tied.1 ])
        | inr differs ↦ elim (rest.first u e differs behind) [
          | inl below ↦ inl (elim stays [ inl less ↦ omega (arith, below, less) | inr tied ↦ omega (arith, below, tied.0) ])
          | inr at ↦ elim stays [
            | inl less ↦ inl (omega (arith, at.0, less))
            | inr tied ↦ tied_under x u e q (at.0 ∙ tied.0) (λ none. elim at.1 [
              | inl dated ↦ let wrong : false ≡ true = subst (λ d. is_some d ≡ true) (tied.1 none) dated in cc
              | inr both ↦ both.0
            ])
          ]
        ]
      ];
}

heads_of : (x : Entry) (q : List Entry) (o : Option Entry) → head_of q ≡ o → entry_of x.who q ≡ None → ((f : Entry) → o ≡ Some f → Heads f q)
    → (q ≡ []) ⊎ ((f : Entry) × (o ≡ Some f))
    → (h : Entry) → Some (first_of x o) ≡ Some h → Heads h (x ∷ q)
heads_of x q None is none rest kind h e = elim kind [
  | inl empty ↦ subst (λ r. Heads h (x ∷ r)) (sym empty) (alone x h e)
  | inr wrong ↦ let no : None ≡ Some wrong.0 = wrong.1 in cc
]
heads_of x q (Some o) is none rest kind h e = elim (cases_Bool (goes_before o x)) [
  | inl goes ↦
      let both : Some o ≡ Some h = sym (ap (λ t. Some (cond t o x)) goes) ∙ e in
      let here : o ≡ h = cc in
      subst (λ y. Heads y (x ∷ q)) here (over x o q none (rest o refl) (goes_over o x goes))
  | inr stays ↦
      let both : Some x ≡ Some h = sym (ap (λ t. Some (cond t o x)) stays) ∙ e in
      let here : x ≡ h = cc in
      subst (λ y. Heads y (x ∷ q)) here (under x o q (rest o refl) (stays_under o x stays))
]

some_head : (q : List Entry) → (q ≡ []) ⊎ ((f : Entry) × (head_of q ≡ Some f))
some_head [] = inl refl
some_head (x ∷ q) = inr (first_of x (head_of q), refl)

pub heads : (q : List Entry) → Once q → (h : Entry) → head_of q ≡ Some h → Heads h q
heads [] once h e = cc
heads (x ∷ q) once h e = heads_of x q (head_of q) refl once.0 (λ f is. heads q once.1 f is) (some_head q) h e

-- nobody stands above the first
pub under_level : (h : Entry) (u : Who) (e : Entry) (q : List Entry) → IsUnder h u e q → e.level ≤ h.level
under_level h u e q (inl below) = omega arith
under_level h u e q (inr at) = omega (arith, at.0)
