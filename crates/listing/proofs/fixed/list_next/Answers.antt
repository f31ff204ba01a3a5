-- `listing::fixed::list_next` meets its contract: each arm is a law of `Stepping`. Assumes nothing.
use mathlib.Core.Path.{sym, refl}
use native.Mathlib.Omega.{arith}
use Rattle.std.proofs.Common.{Ok, Err}
use Rattle.parts.specs.Answers.{answer_of}
use Rattle.text.specs.Text.{ascii}
use Rattle.listing.proofs.Stepping.{few_handed, taken_stepped, refused_stepped, end_stepped, broken_stepped}
use Rattle.listing.proofs.fixed.list_next.Goals as goal

pub put_hand_lines-requires : goal.put_hand_lines-requires
put_hand_lines-requires g c =
    let few =
    few_handed _ _ c.args.listing (sym c.in-Frame.ensures) (answer_of (Ok c.in-Ok.accepted)) _ _ _ c.part_at.ensures.bytes c.in-Ok.ensures.promised.0 in
    omega (arith, c.put_frame_line.ensures.short, few, c.requires.1)

pub returns-in-Ok-clause-stepped : goal.returns-in-Ok-clause-stepped
returns-in-Ok-clause-stepped g c =
    taken_stepped _ _ c.args.listing (sym c.in-Frame.ensures) (answer_of (Ok c.in-Ok.accepted)) _ _ _ c.part_at.ensures.bytes
    c.in-Ok.ensures.promised.0 c.requires.0 (rw (c.err.ensures.value, c.in-Ok.is) at c.put_frame_line.ensures.bytes)
    c.put_frame_line.ensures.short c.put_hand_lines.ensures.bytes c.put_hand_lines.ensures.short

pub returns-in_default-clause-stepped : goal.returns-in_default-clause-stepped
returns-in_default-clause-stepped g c =
    refused_stepped _ _ c.args.listing (sym c.in-Frame.ensures) (answer_of (Err c.in_default.field-0)) _ _ _ c.part_at.ensures.bytes
    c.in_default.ensures.promised.0 c.requires.0 refl (rw (c.err.ensures.value, c.in_default.is) at c.put_frame_line.ensures.bytes)
    c.put_frame_line.ensures.short

pub returns-in-End-clause-stepped : goal.returns-in-End-clause-stepped
unfolding ascii
returns-in-End-clause-stepped g c = end_stepped {given = c.args.listing} (sym c.in-End.ensures) c.push_str.ensures.bytes

pub returns-in-Broken-clause-stepped : goal.returns-in-Broken-clause-stepped
unfolding ascii
returns-in-Broken-clause-stepped g c = broken_stepped {given = c.args.listing} (sym c.in-Broken.ensures) c.push_str-in-Broken.ensures.bytes
