-- A static literal has the value that the image has of it.
use Rattle.std.proofs.Common.{◌≡◌, ℕ, List, Some, None, Bool, true, false, cond}
use Rattle.std.specs.Prelude.{◌+◌, leb, pos}
use Rattle.ada_regions.specs.declared.predefined.TheConstants.{LAST_DURATION, LAST_INTEGER}
use Rattle.ada_lex.specs.Meaning.{whole_of, decimals_of}
use Rattle.profile_image.specs.declared.values.Value.{Value}
use Rattle.profile_image.specs.declared.values.Value.TheVariants as value
use Rattle.ann_base.specs.Lists.{is_empty}
use Rattle.ada_regions.specs.Statics.{static_literal, static_negative, literal_value, negated, micros_of}

kept : (b : Bool) (x v : Value) → cond b (Some x) None ≡ Some v → v ≡ x
kept true x v e = cc
kept false x v e = cc

kept_of_two : (b p q : Bool) (x y v : Value) → cond b (cond p (Some x) None) (cond q (Some y) None) ≡ Some v → v ≡ cond b x y
kept_of_two true p q x y v e = kept p x v e
kept_of_two false p q x y v e = kept q y v e

negated_of_two : (b p q : Bool) (x y v : Value) → cond b (cond p (Some (negated x)) None) (cond q (Some (negated y)) None) ≡ Some v → v ≡ negated (cond b x y)
negated_of_two true p q x y v e = kept p (negated x) v e
negated_of_two false p q x y v e = kept q (negated y) v e

pub value_of_static : (literal : List ℕ) (v : Value) → static_literal literal ≡ Some v → v ≡ literal_value literal
unfolding static_literal literal_value
value_of_static literal v e =
    kept_of_two (is_empty (decimals_of literal)) (leb (whole_of literal) LAST_INTEGER) (leb (micros_of literal) LAST_DURATION)
    (value.Whole (pos (whole_of literal))) (value.Ticks (pos (micros_of literal))) v e

pub value_of_negative : (literal : List ℕ) (v : Value) → static_negative literal ≡ Some v → v ≡ negated (literal_value literal)
unfolding static_negative literal_value
value_of_negative literal v e =
    negated_of_two (is_empty (decimals_of literal)) (leb (whole_of literal) (LAST_INTEGER + 1)) (leb (micros_of literal) (LAST_DURATION + 1))
    (value.Whole (pos (whole_of literal))) (value.Ticks (pos (micros_of literal))) v e
