-- Words of the grammar that are reserved (2.9).
use Rattle.std.proofs.Common.{◌≡◌, true, refl, codes}
use Rattle.ada_lex.specs.Reserved.{is_reserved}

pub reserved_null : is_reserved (codes "null") ≡ true
unfolding is_reserved
reserved_null = refl

pub reserved_abs : is_reserved (codes "abs") ≡ true
unfolding is_reserved
reserved_abs = refl

pub reserved_not : is_reserved (codes "not") ≡ true
unfolding is_reserved
reserved_not = refl

pub reserved_else : is_reserved (codes "else") ≡ true
unfolding is_reserved
reserved_else = refl

pub reserved_then : is_reserved (codes "then") ≡ true
unfolding is_reserved
reserved_then = refl

pub reserved_body : is_reserved (codes "body") ≡ true
unfolding is_reserved
reserved_body = refl
