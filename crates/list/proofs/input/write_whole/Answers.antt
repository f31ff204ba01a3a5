-- `list::input::write_whole` meets its contract: what is written so far stands at the front of the bytes. Assumes nothing.
use Rattle.std.proofs.Common.{◌≡◌, ◌-◌, length, take, drop, arith, rules, length-drop, take_all}
use Rattle.std.proofs.KnownBytes.{Appends-trans}
use lib.Seq.{take-add}
use Rattle.list.proofs.input.write_whole.Goals as goal

pub loop-done-preserved : goal.loop-done-preserved
loop-done-preserved g c =
    let l = c.loop-done in
    let bytes = c.args.bytes.now in
    let rest : take (length bytes - l.done) (drop l.done bytes) ≡ drop l.done bytes =
    take_all (length bytes - l.done) (drop l.done bytes) (rw length-drop (omega arith)) in (
      search (rules, c.in_ok-n.ensures.bound),
      rw take-add (Appends-trans _ _ _ _ _ l.invariant.1 (rw rest at c.in_ok-n.ensures.bytes)),
    )
