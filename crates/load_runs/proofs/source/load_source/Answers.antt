use Rattle.std.proofs.Common.{◌∙◌, ap, ◌++◌, codes}
use Rattle.load_runs.specs.Source.{declarations_from, bodies_from}
use Rattle.load_runs.proofs.Joined.{joined}
use Rattle.load_runs.proofs.source.load_source.Goals as goal

pub returns : goal.returns
returns c =
    let head = codes "with Ada.Real_Time; use Ada.Real_Time;\nprocedure Load is\n" in
    let declarations = declarations_from 1 c.args.tasks in
    let bodies = bodies_from 1 c.args.tasks in
    let end = codes "begin\n   null;\nend Load;\n" in
    let all = c.extend_from_slice-2.new.self.items in
    record {
      text =
          joined c.new-text.result.items c.extend_from_slice.new.self.items all head (declarations ++ (bodies ++ end)) c.in_ok-extend_from_slice.ensures.items
          (joined c.extend_from_slice.new.self.items c.write_declarations.new.text.items all declarations (bodies ++ end) c.in_ok-write_declarations.ensures
          (joined c.write_declarations.new.text.items c.write_bodies.new.text.items all bodies end c.in_ok-write_bodies.ensures
          c.in_ok-extend_from_slice-2.ensures.items))
          ∙ ap (λ text. text ++ (head ++ (declarations ++ (bodies ++ end)))) c.new-text.ensures.items;
    }
