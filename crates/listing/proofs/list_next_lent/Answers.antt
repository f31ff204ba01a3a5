-- `listing::list_next_lent` meets its contract: each arm is a law of `Stepping`. Assumes nothing.
use mathlib.Core.Path.{sym, refl}
use native.Mathlib.Omega.{arith}
use Rattle.std.proofs.Common.{Ok, Err}
use Rattle.parts.specs.Answers.{answer_of}
use Rattle.text.specs.Text.{ascii}
use Rattle.listing.proofs.Stepping.{few_handed, taken_stepped_lent, refused_stepped_lent, end_stepped_lent, broken_stepped_lent}
use Rattle.listing.proofs.list_next_lent.Goals as goal

pub put_hand_lines_lent-requires : goal.put_hand_lines_lent-requires
put_hand_lines_lent-requires c =
    let few =
    few_handed _ _ c.args.listing (sym c.in-Frame.ensures) (answer_of (Ok c.in-Ok.accepted)) _ _ _ c.part_at.ensures.bytes c.in-Ok.ensures.promised.0 in
    let line = c.put_answer_line.ensures in
    omega (arith, line.bytes.put.kept, line.short, few, c.requires.1)

pub returns-in-Ok-clause-stepped : goal.returns-in-Ok-clause-stepped
returns-in-Ok-clause-stepped c =
    let line = c.put_answer_line.ensures in
    taken_stepped_lent _ _ c.args.listing (sym c.in-Frame.ensures) (answer_of (Ok c.in-Ok.accepted)) _ _ _ c.part_at.ensures.bytes
    c.in-Ok.ensures.promised.0 c.requires.0 c.requires.1 (rw (c.err.ensures.value, c.in-Ok.is) at line.bytes)
    line.short c.put_hand_lines_lent.ensures.bytes c.put_hand_lines_lent.ensures.short

pub returns-in_default-clause-stepped : goal.returns-in_default-clause-stepped
returns-in_default-clause-stepped c =
    let line = c.put_answer_line.ensures in
    refused_stepped_lent _ _ c.args.listing (sym c.in-Frame.ensures) (answer_of (Err c.in_default.field-0)) _ _ _ c.part_at.ensures.bytes
    c.in_default.ensures.promised.0 c.requires.0 refl c.requires.1 (rw (c.err.ensures.value, c.in_default.is) at line.bytes)
    line.short

pub returns-in-End-clause-stepped : goal.returns-in-End-clause-stepped
unfolding ascii
returns-in-End-clause-stepped c = end_stepped_lent {given = c.args.listing} c.requires.0 (sym c.in-End.ensures) c.put_words.ensures

pub returns-in-Broken-clause-stepped : goal.returns-in-Broken-clause-stepped
unfolding ascii
returns-in-Broken-clause-stepped c = broken_stepped_lent {given = c.args.listing} c.requires.0 (sym c.in-Broken.ensures) c.put_words-in-Broken.ensures
