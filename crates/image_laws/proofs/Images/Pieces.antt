-- The text of a Put_Line stands as its pieces.
use Rattle.std.proofs.Common.{◌≡◌, ℕ, true, List, [], ◌∷◌, ◌++◌, Option, Some, None, refl, ap, ◌∙◌}
use Rattle.std.proofs.lemmas.Bool.{and_from, and_parts, false≢true}
use Rattle.std.proofs.lemmas.Slice.Eq.{bytes_eq-Decides}
use Rattle.ann_base.specs.declared.places.Place.{Place}
use Rattle.ada_tree.specs.declared.names.Name.{Name}
use Rattle.ada_tree.specs.declared.expressions.Expression.{Expression}
use Rattle.ada_tree.specs.declared.expressions.Expression.TheViews.{out-Expression}
use Rattle.ada_tree.specs.declared.expressions.ExpressionForm.{ExpressionForm}
use Rattle.ada_tree.specs.declared.expressions.ExpressionForm.TheVariants as form
use Rattle.ada_tree.specs.declared.expressions.Addend.{Addend}
use Rattle.ada_tree.specs.declared.expressions.Argument.{Argument}
use Rattle.ada_tree.specs.declared.expressions.AttributeDesignator.{AttributeDesignator}
use Rattle.profile_image.specs.declared.image.Image.{Image}
use Rattle.profile_image.specs.declared.numbers.ExprNo.{ExprNo}
use Rattle.profile_image.specs.declared.statements.Piece.{Piece}
use Rattle.profile_image.specs.declared.statements.Piece.TheVariants as piece
use Rattle.ada_regions.specs.declared.types.AdaType.{AdaType}
use Rattle.ada_regions.specs.declared.types.AdaType.TheVariants as types
use Rattle.ada_regions.specs.declared.types.Subtype.{Subtype}
use Rattle.ada_regions.specs.Statics.{subtype_of_name}
use Rattle.ada_image.specs.declared.making.Within.{Within}
use Rattle.ada_image.specs.Making.{◌>>=◌, pure}
use Rattle.ada_image.specs.ImageOfExpressions.{first_argument}
use Rattle.ada_image.specs.ImageOfCalls.{value_or_none, piece_of_type, image_piece, image_made, piece_in_form}
use Rattle.ada_image.specs.ImageOfCalls.{piece_made, joined_made, all_joined, pieces_in_form, pieces_made}
use Rattle.ada_image.specs.ReadStatements.{is_whole_piece, is_truth_piece, is_literal_piece, terms_of, joined}
use Rattle.ada_image.specs.ReadStatements.{value_stands_if, piece_stands_in_form, pieces_stand, text_stands}
use Rattle.ada_image.specs.BuiltStatements.{value_there, piece_form_built, piece_built, pieces_built, text_form_built, text_built}
use Rattle.image_laws.proofs.Images.Steps.{Step, step-pure, step-so, step-then}
use Rattle.image_laws.proofs.Images.Values.{same-number}
use Rattle.image_laws.proofs.Images.Actuals.{value-step}

-- ---- the piece of an Image

module _ (p : Image) (within : Within) (name : Name) (a : Option AttributeDesignator) (xs : List (Argument Expression)) (e : ExprNo)
    (stands : value_stands_if p within (first_argument xs) e ≡ true) where
  of-type : (s : Subtype) (t : AdaType) → s.of_type ≡ t → subtype_of_name within.names name ≡ Some s
      → piece_stands_in_form p within (form.Named name a xs) (piece_of_type e t) ≡ true
  unfolding image_piece piece_of_type
  of-type s types.Integer is n = and_from _ _ stands (ap (λ x. is_whole_piece (image_piece e x)) n ∙ ap (λ t. is_whole_piece (piece_of_type e t)) is)
  of-type s types.Boolean is n = and_from _ _ stands (ap (λ x. is_truth_piece (image_piece e x)) n ∙ ap (λ t. is_truth_piece (piece_of_type e t)) is)
  of-type s types.Duration is n = and_from _ _ stands (ap (λ x. is_whole_piece (image_piece e x)) n ∙ ap (λ t. is_whole_piece (piece_of_type e t)) is)
  of-type s (types.Enumeration number) is n =
      and_from _ _ stands
      (ap (λ x. is_literal_piece number.0 (image_piece e x)) n ∙ ap (λ t. is_literal_piece number.0 (piece_of_type e t)) is ∙ same-number number.0)
  of-type s (types.Array y) is n = and_from _ _ stands (ap (λ x. is_whole_piece (image_piece e x)) n ∙ ap (λ t. is_whole_piece (piece_of_type e t)) is)
  of-type s types.Time is n = and_from _ _ stands (ap (λ x. is_whole_piece (image_piece e x)) n ∙ ap (λ t. is_whole_piece (piece_of_type e t)) is)
  of-type s types.TimeSpan is n = and_from _ _ stands (ap (λ x. is_whole_piece (image_piece e x)) n ∙ ap (λ t. is_whole_piece (piece_of_type e t)) is)
  of-type s types.CpuTime is n = and_from _ _ stands (ap (λ x. is_whole_piece (image_piece e x)) n ∙ ap (λ t. is_whole_piece (piece_of_type e t)) is)
  of-type s types.TaskId is n = and_from _ _ stands (ap (λ x. is_whole_piece (image_piece e x)) n ∙ ap (λ t. is_whole_piece (piece_of_type e t)) is)
  of-type s types.TimingEvent is n = and_from _ _ stands (ap (λ x. is_whole_piece (image_piece e x)) n ∙ ap (λ t. is_whole_piece (piece_of_type e t)) is)
  of-type s types.Timer is n = and_from _ _ stands (ap (λ x. is_whole_piece (image_piece e x)) n ∙ ap (λ t. is_whole_piece (piece_of_type e t)) is)
  of-type s types.GroupBudget is n = and_from _ _ stands (ap (λ x. is_whole_piece (image_piece e x)) n ∙ ap (λ t. is_whole_piece (piece_of_type e t)) is)
  of-type s types.LimitedControlled is n = and_from _ _ stands (ap (λ x. is_whole_piece (image_piece e x)) n ∙ ap (λ t. is_whole_piece (piece_of_type e t)) is)
  of-type s types.Controlled is n = and_from _ _ stands (ap (λ x. is_whole_piece (image_piece e x)) n ∙ ap (λ t. is_whole_piece (piece_of_type e t)) is)
  of-type s (types.Derived y) is n = and_from _ _ stands (ap (λ x. is_whole_piece (image_piece e x)) n ∙ ap (λ t. is_whole_piece (piece_of_type e t)) is)
  of-type s (types.Task y) is n = and_from _ _ stands (ap (λ x. is_whole_piece (image_piece e x)) n ∙ ap (λ t. is_whole_piece (piece_of_type e t)) is)
  of-type s (types.Protected y) is n = and_from _ _ stands (ap (λ x. is_whole_piece (image_piece e x)) n ∙ ap (λ t. is_whole_piece (piece_of_type e t)) is)

  of-subtype : (s : Option Subtype) → subtype_of_name within.names name ≡ s → piece_stands_in_form p within (form.Named name a xs) (image_piece e s) ≡ true
  unfolding image_piece
  of-subtype None n = and_from _ _ stands (ap (λ x. is_whole_piece (image_piece e x)) n)
  of-subtype (Some s) n = of-type s s.of_type refl n

-- ---- one piece

-- exactly one, which is that of the text
abbrev OnePiece : Within → ExpressionForm Expression → Image → List Piece → Type 0
OnePiece within x p one = (y : Piece) × (one ≡ y ∷ []) × (piece_stands_in_form p within x y ≡ true)

image-step : (name : Name) (a : Option AttributeDesignator) (xs : List (Argument Expression)) (within : Within)
    → value_there (first_argument xs) within.names ≡ true
    → Step (image_made within name xs) (OnePiece within (form.Named name a xs))
unfolding image_made
image-step name a xs within b =
    step-then (value_or_none within (first_argument xs)) (λ e. pure (image_piece e (subtype_of_name within.names name) ∷ []))
    (value-step (first_argument xs) within b)
    (λ e. step-pure (image_piece e (subtype_of_name within.names name) ∷ []) _
    (λ p h. (image_piece e (subtype_of_name within.names name), refl, of-subtype p within name a xs e h (subtype_of_name within.names name) refl)))

text-piece : (text : List ℕ) (within : Within) (place : Place) → Step (pure (piece.Text text ∷ [])) (OnePiece within (form.Text place text))
text-piece text within place = step-pure (piece.Text text ∷ []) _ (λ p. (piece.Text text, refl, (bytes_eq-Decides text text).1 refl))

piece-form-step : (x : ExpressionForm Expression) (within : Within) → piece_form_built x within.names ≡ true → Step (piece_in_form within x) (OnePiece within x)
unfolding piece_in_form
piece-form-step (form.Logical operator first others) within b = absurd (false≢true b)
piece-form-step (form.Relational left place operator right) within b = absurd (false≢true b)
piece-form-step (form.Adding first others) within b = absurd (false≢true b)
piece-form-step (form.Signed place s operand) within b = absurd (false≢true b)
piece-form-step (form.Multiplying first others) within b = absurd (false≢true b)
piece-form-step (form.Highest place operator operand) within b = absurd (false≢true b)
piece-form-step (form.Number place literal) within b = absurd (false≢true b)
piece-form-step (form.Text place text) within b = text-piece text within place
piece-form-step (form.Null place) within b = absurd (false≢true b)
piece-form-step (form.Bracketed place inner) within b = absurd (false≢true b)
piece-form-step (form.Named name a arguments) within b = image-step name a arguments within b

piece-step : (e : Expression) (within : Within) → piece_built e within.names ≡ true → Step (piece_made within e) (OnePiece within (out-Expression e).form)
unfolding piece_made
piece-step e within b = piece-form-step (out-Expression e).form within b

-- ---- several joined

one-more : (p : Image) (within : Within) (e : Expression) (es : List Expression) (one others : List Piece) → OnePiece within (out-Expression e).form p one
    → pieces_stand p within es others ≡ true → pieces_stand p within (e ∷ es) (one ++ others) ≡ true
one-more p within e es one others h k = ap (λ ys. pieces_stand p within (e ∷ es) (ys ++ others)) h.1 ∙ and_from _ _ h.2 k

joined-step : (xs : List (Addend Expression)) (within : Within) → pieces_built xs within.names ≡ true
    → Step (joined_made within xs) (λ p ys. pieces_stand p within (terms_of xs) ys ≡ true)
unfolding joined_made
joined-step [] within b = step-pure [] _ (λ p. refl)
joined-step (a ∷ rest) within b =
    let parts = and_parts _ _ b in
    step-then (piece_made within a.term) (λ one. joined_made within rest >>= (λ others. pure (one ++ others))) (piece-step a.term within parts.0)
    (λ one. step-then (joined_made within rest) (λ others. pure (one ++ others)) (joined-step rest within parts.1)
    (λ others. step-pure (one ++ others) _ (λ p k h. one-more p within a.term (terms_of rest) one others h k)))

all-step : (first : Expression) (xs : List (Addend Expression)) (within : Within) → piece_built first within.names ≡ true → pieces_built xs within.names ≡ true
    → Step (all_joined within first xs) (λ p ys. pieces_stand p within (first ∷ terms_of xs) ys ≡ true)
unfolding all_joined
all-step first xs within b c =
    step-then (piece_made within first) (λ one. joined_made within xs >>= (λ others. pure (one ++ others))) (piece-step first within b)
    (λ one. step-then (joined_made within xs) (λ others. pure (one ++ others)) (joined-step xs within c)
    (λ others. step-pure (one ++ others) _ (λ p k h. one-more p within first (terms_of xs) one others h k)))

-- a text of one piece
alone : (p : Image) (within : Within) (e : Expression) (x : ExpressionForm Expression) → (out-Expression e).form ≡ x → (ys : List Piece)
    → OnePiece within x p ys → pieces_stand p within (e ∷ []) ys ≡ true
alone p within e x is ys h = ap (pieces_stand p within (e ∷ [])) h.1 ∙ and_from _ _ (ap (λ z. piece_stands_in_form p within z h.0) is ∙ h.2) refl

text-form-step : (e : Expression) (x : ExpressionForm Expression) (within : Within) → (out-Expression e).form ≡ x → text_form_built x within.names ≡ true
    → Step (pieces_in_form within x) (λ p ys. pieces_stand p within (joined x e) ys ≡ true)
unfolding pieces_in_form
text-form-step e (form.Logical operator first others) within is b = absurd (false≢true b)
text-form-step e (form.Relational left place operator right) within is b = absurd (false≢true b)
text-form-step e (form.Adding first others) within is b = let parts = and_parts _ _ b in all-step first (others.first ∷ others.others) within parts.0 parts.1
text-form-step e (form.Signed place s operand) within is b = absurd (false≢true b)
text-form-step e (form.Multiplying first others) within is b = absurd (false≢true b)
text-form-step e (form.Highest place operator operand) within is b = absurd (false≢true b)
text-form-step e (form.Number place literal) within is b = absurd (false≢true b)
text-form-step e (form.Text place text) within is b = step-so (λ p ys h. alone p within e (form.Text place text) is ys h) (text-piece text within place)
text-form-step e (form.Null place) within is b = absurd (false≢true b)
text-form-step e (form.Bracketed place inner) within is b = absurd (false≢true b)
text-form-step e (form.Named name a arguments) within is b =
    step-so (λ p ys h. alone p within e (form.Named name a arguments) is ys h) (image-step name a arguments within b)

pub text-step : (e : Option Expression) (within : Within) → text_built e within.names ≡ true
    → Step (pieces_made within e) (λ p ys. text_stands p within e ys ≡ true)
unfolding pieces_made
text-step None within b = absurd (false≢true b)
text-step (Some e) within b = text-form-step e (out-Expression e).form within refl b
