-- Tokens that lead on, one part behind another.
use Rattle.std.proofs.Common.{◌≡◌, ◌+◌, List, [], ◌∷◌, ◌++◌, length, refl, sym, ap, subst, arith}
use Rattle.ada_tree.specs.Written.{Written, Lexeme, Spells, AllSpell}
use Rattle.grammar_laws.specs.Leads.{Leads}

pub leads_both : (a b : List Written) (ls m r : List Lexeme) → Leads a ls m → Leads b m r → Leads (a ++ b) ls r
leads_both [] b ls m r p q = subst (λ (z : List Lexeme). Leads b z r) (sym p) q
leads_both (w ∷ a) b [] m r p q = p
leads_both (w ∷ a) b (l ∷ ls) m r p q = (p.0, leads_both a b ls m r p.1 q)

pub record Through (a b : List Written) (ls r : List Lexeme) : Type 0 where
  pub middle : List Lexeme
  pub first : Leads a ls middle
  pub second : Leads b middle r

pub leads_through : (a b : List Written) (ls r : List Lexeme) → Leads (a ++ b) ls r → Through a b ls r
leads_through [] b ls r p = record { middle = ls; first = refl; second = p }
leads_through (w ∷ a) b [] r p = absurd p
leads_through (w ∷ a) b (l ∷ ls) r p =
    let t = leads_through a b ls r p.1 in
    record { middle = t.middle; first = (p.0, t.first); second = t.second }

-- each written token takes one
pub leads_length : (a : List Written) (ls r : List Lexeme) → Leads a ls r → length ls ≡ length a + length r
leads_length [] ls r p = omega (arith, ap length p)
leads_length (w ∷ a) [] r p = absurd p
leads_length (w ∷ a) (l ∷ ls) r p = omega (arith, leads_length a ls r p.1)

pub all_spell : (ws : List Written) (ls : List Lexeme) → Leads ws ls [] → AllSpell ws ls
all_spell [] [] p = tt
all_spell [] (l ∷ ls) p = absurd cc
all_spell (w ∷ ws) [] p = p
all_spell (w ∷ ws) (l ∷ ls) p = (p.0, all_spell ws ls p.1)

pub spell_leads : (ws : List Written) (ls : List Lexeme) → AllSpell ws ls → Leads ws ls []
spell_leads [] [] p = refl
spell_leads [] (l ∷ ls) p = absurd p
spell_leads (w ∷ ws) [] p = p
spell_leads (w ∷ ws) (l ∷ ls) p = (p.0, spell_leads ws ls p.1)

-- the token as it is written, at its place
abbrev pub as_written : Written → Lexeme → Lexeme
as_written w l = record { kind = w.kind; text = w.text; place = l.place }

pub spelt_is : (w : Written) (l : Lexeme) → Spells w l → as_written w l ≡ l
spelt_is w l s = rw (s.kind, s.text) refl
