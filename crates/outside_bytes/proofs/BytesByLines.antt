-- The first line of bytes that begin with bytes without a line feed.
use Rattle.std.proofs.Common.{◌≡◌, ℕ, Bool, true, false, ◌==◌, ◌||◌, if◌then◌else◌, List, [], ◌∷◌, ◌++◌, refl, ap, ◌∙◌}
use Rattle.std.proofs.lemmas.Bool.{or_parts}
use Rattle.outside_bytes.specs.Bytes.{first_line, has_feed, is_some_byte}

no_feed : (byte : ℕ) (bytes : List ℕ) → has_feed (byte ∷ bytes) ≡ false → ((byte == 10) ≡ false) × (has_feed bytes ≡ false)
no_feed byte bytes h = or_parts (byte == 10) (has_feed bytes) h

pub first_line-append : (line more : List ℕ) → has_feed line ≡ false → first_line (line ++ more) ≡ line ++ first_line more
first_line-append [] more h = refl
first_line-append (byte ∷ line) more h =
    let n = no_feed byte line h in
    ap (λ b. if b then byte ∷ [] else byte ∷ first_line (line ++ more)) n.0 ∙ ap (λ xs. byte ∷ xs) (first_line-append line more n.1)

pub has_feed-push : (line : List ℕ) (byte : ℕ) → has_feed line ≡ false → (byte == 10) ≡ false → has_feed (line ++ byte ∷ []) ≡ false
has_feed-push [] byte h other = ap (λ b. b || false) other
has_feed-push (x ∷ line) byte h other =
    let n = no_feed x line h in
    ap (λ b. b || has_feed (line ++ byte ∷ [])) n.0 ∙ has_feed-push line byte n.1 other

pub is_some_byte-append : (line : List ℕ) (byte : ℕ) (more : List ℕ) → is_some_byte (line ++ byte ∷ more) ≡ true
is_some_byte-append [] byte more = refl
is_some_byte-append (x ∷ line) byte more = refl
