use Rattle.std.proofs.Common.{◌++◌, codes, decimal}
use Rattle.load_runs.specs.Source.{period_of}
use Rattle.load_runs.proofs.Joined.{joined}
use Rattle.load_runs.proofs.source.write_body.Goals as goal

pub returns : goal.returns
returns c =
    let number = decimal c.args.task in
    let period = decimal (period_of c.args.task) in
    let waits = codes ");\n         delay until Next;\n      end loop;\n   end T" in
    let begins = codes " is\n      Next : Time := Clock;\n   begin\n      for K in 1 .. 10 loop\n         Next := Next + Microseconds (" in
    let all = c.extend_from_slice-4.new.self.items in
    joined c.args.text.now.items c.extend_from_slice.new.self.items all (codes "   task body T")
    (number ++ (begins ++ (period ++ (waits ++ (number ++ codes ";\n"))))) c.in_ok-extend_from_slice.ensures.items
    (joined c.extend_from_slice.new.self.items c.write_number.new.text.items all number
    (begins ++ (period ++ (waits ++ (number ++ codes ";\n")))) c.in_ok-write_number.ensures
    (joined c.write_number.new.text.items c.extend_from_slice-2.new.self.items all begins
    (period ++ (waits ++ (number ++ codes ";\n"))) c.in_ok-extend_from_slice-2.ensures.items
    (joined c.extend_from_slice-2.new.self.items c.write_number-2.new.text.items all period (waits ++ (number ++ codes ";\n")) c.in_ok-write_number-2.ensures
    (joined c.write_number-2.new.text.items c.extend_from_slice-3.new.self.items all waits (number ++ codes ";\n") c.in_ok-extend_from_slice-3.ensures.items
    (joined c.extend_from_slice-3.new.self.items c.write_number-3.new.text.items all number
    (codes ";\n") c.in_ok-write_number-3.ensures c.in_ok-extend_from_slice-4.ensures.items)))))
