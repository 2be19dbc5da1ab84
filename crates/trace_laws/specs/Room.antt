-- Room for one line more.
use Rattle.std.specs.Prelude.{◌<◌, vec_len, vec_capacity}
use Rattle.trace_laws.specs.declared.regions.Regions.{Regions}

pub record HasRoom (regions : Regions) : Type 0 where
  pub inits : vec_len regions.inits < vec_capacity regions.inits
  pub finals : vec_len regions.finals < vec_capacity regions.finals
  pub leaves : vec_len regions.leaves < vec_capacity regions.leaves
  pub lefts : vec_len regions.lefts < vec_capacity regions.lefts
