use Rattle.std.proofs.Common.{rules, arith, add-one, length-append, suc, [], ◌∷◌, ◌++◌, ◌≡◌, ◌<◌}
use Rattle.std.proofs.Common.{◌+◌, ◌==◌, length, vec_len, sym, ap, subst, true, false, not, ◌∙◌}
use Rattle.std.proofs.lemmas.Bool.{ne_eqb}
use Rattle.outside_bytes.specs.Files.{left_of}
use Rattle.outside_bytes.specs.Bytes.{has_feed}
use Rattle.outside_bytes.specs.Lines.{come, to_come, HandsOn, HasHandedOn}
use Rattle.outside_bytes.proofs.BytesByLines.{has_feed-push}
use Rattle.outside_bytes.proofs.HandedOn.{handed_one, ended_line, cut_line, last_line, some_by}
use Rattle.outside_bytes.proofs.lines.Lines.next.Goals as goal

pub returns-then-byte-eq10-clause-line : goal.returns-then-byte-eq10-clause-line
returns-then-byte-eq10-clause-line g c =
    let before = to_come c.args.self.now (left_of (g.S.Shelf.files c.args.shelf.now) (g.S.Shelf.at c.args.shelf.now)) in
    let left = left_of (g.S.Shelf.files c.loop-self.shelf) (g.S.Shelf.at c.loop-self.shelf) in
    let lines = c.loop-self.self in
    let line = c.loop-self.line.items in
    let byte = c.index-byte.result.now in
    let after = come (lines.next + 1) lines.piece.items lines.room left in
    let inside : lines.next < length lines.piece.items = search (rules, c.if-self-len.true, c.len.ensures) in
    let feed : (byte == 10) ≡ true = ap (λ n. n == 10) c.if-byte-eq10.true in
    subst (λ xs. HandsOn c.args.most before after xs true) (sym c.in_ok-push.ensures.items)
    (ended_line before after line byte c.args.most c.loop-self.invariant.none c.loop-self.invariant.short feed
    (handed_one before left line lines.piece.items lines.next lines.room byte inside c.index-byte.ensures c.loop-self.invariant.handed))

pub returns-then-len-most-clause-line : goal.returns-then-len-most-clause-line
returns-then-len-most-clause-line g c =
    let before = to_come c.args.self.now (left_of (g.S.Shelf.files c.args.shelf.now) (g.S.Shelf.at c.args.shelf.now)) in
    let left = left_of (g.S.Shelf.files c.loop-self.shelf) (g.S.Shelf.at c.loop-self.shelf) in
    let lines = c.loop-self.self in
    let line = c.loop-self.line.items in
    let byte = c.index-byte.result.now in
    let after = come (lines.next + 1) lines.piece.items lines.room left in
    let inside : lines.next < length lines.piece.items = search (rules, c.if-self-len.true, c.len.ensures) in
    let count : vec_len c.push.new.self ≡ length c.push.new.self.items = search rules in
    let full : length (line ++ byte ∷ []) ≡ c.args.most =
    ap length (sym c.in_ok-push.ensures.items) ∙ sym count ∙ sym c.len-then-self-len.ensures ∙ c.if-len-most.true in
    subst (λ xs. HandsOn c.args.most before after xs true) (sym c.in_ok-push.ensures.items)
    (cut_line before after line byte c.args.most c.loop-self.invariant.none (ne_eqb byte 10 c.if-byte-eq10.false) full
    (handed_one before left line lines.piece.items lines.next lines.room byte inside c.index-byte.ensures c.loop-self.invariant.handed))

pub loop-self-preserved-else-len-most : goal.loop-self-preserved-else-len-most
loop-self-preserved-else-len-most g c =
    let before = to_come c.args.self.now (left_of (g.S.Shelf.files c.args.shelf.now) (g.S.Shelf.at c.args.shelf.now)) in
    let left = left_of (g.S.Shelf.files c.loop-self.shelf) (g.S.Shelf.at c.loop-self.shelf) in
    let lines = c.loop-self.self in
    let line = c.loop-self.line.items in
    let byte = c.index-byte.result.now in
    let after = come (lines.next + 1) lines.piece.items lines.room left in
    let inside : lines.next < length lines.piece.items = search (rules, c.if-self-len.true, c.len.ensures) in
    let count : vec_len c.push.new.self ≡ length c.push.new.self.items = search rules in
    let size : length c.push.new.self.items ≡ suc (length line) =
    ap length c.in_ok-push.ensures.items ∙ length-append line (byte ∷ []) ∙ add-one (length line) in
    record {
      short = omega (arith, size, count, c.len-then-self-len.ensures, c.if-len-most.false, c.loop-self.invariant.short);
      none =
          subst (λ xs. has_feed xs ≡ false) (sym c.in_ok-push.ensures.items)
          (has_feed-push line byte c.loop-self.invariant.none (ne_eqb byte 10 c.if-byte-eq10.false));
      handed = subst (HasHandedOn before after) (sym c.in_ok-push.ensures.items)
          (handed_one before left line lines.piece.items lines.next lines.room byte inside c.index-byte.ensures c.loop-self.invariant.handed);
      files = c.loop-self.invariant.files;
      picked = c.loop-self.invariant.picked;
      monotone = c.loop-self.invariant.monotone;
    }

pub returns-then-not-branch-clause-line : goal.returns-then-not-branch-clause-line
returns-then-not-branch-clause-line g c =
    let before = to_come c.args.self.now (left_of (g.S.Shelf.files c.args.shelf.now) (g.S.Shelf.at c.args.shelf.now)) in
    let between = to_come c.loop-self.self (left_of (g.S.Shelf.files c.loop-self.shelf) (g.S.Shelf.at c.loop-self.shelf)) in
    let after = to_come c.refill.new.self (left_of (g.S.Shelf.files c.refill.new.shelf) (g.S.Shelf.at c.refill.new.shelf)) in
    let line = c.loop-self.line.items in
    let size : vec_len c.loop-self.line ≡ length line = search rules in
    let read = c.in_ok-refill.ensures.read in
    last_line before between after line (not c.is_empty.result) c.args.most c.loop-self.invariant.none c.loop-self.invariant.short c.loop-self.invariant.handed
    (read.ended c.if-not-branch.true) read.same
    (ap not c.is_empty.ensures ∙ some_by line (vec_len c.loop-self.line) size)
