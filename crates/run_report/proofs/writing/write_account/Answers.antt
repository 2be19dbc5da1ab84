use Rattle.std.proofs.Common.{append_assoc, refl}
use Rattle.run_report.proofs.writing.write_account.Goals as goal

pub returns : goal.returns
returns c =
    rw (
      c.append-4.ensures,
      c.push_figure-7.ensures.text,
      c.push_figure-6.ensures.text,
      c.push_figure-5.ensures.text,
      c.push_figure-4.ensures.text,
      c.push_figure-3.ensures.text,
      c.push_figure-2.ensures.text,
      c.push_figure.ensures.text,
      c.append-3.ensures,
      c.as_bytes.ensures.bytes,
      c.append-2.ensures,
      c.push_number.ensures.text,
      c.append.ensures,
    )
    (simp append_assoc refl)
