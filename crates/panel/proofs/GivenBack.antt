-- The struct given back, over the parts left by a call in place. Assumes nothing.
use mathlib.Core.Path.{◌≡◌, ap}
use Prim.Native.Nat.{ℕ}
use Rattle.lent.specs.Record.{Parts}
use Rattle.panel.specs.declared.Panel.{Panel}
use Rattle.panel.specs.Record.{parts_of, GivenBack}

-- the struct of these parts
abbrev pub panel_of : Parts → Panel
panel_of p =
    record {
      own = p.own;
      time = p.time;
      high = p.high;
      count = p.count;
      marks = p.marks;
      barrier = p.barrier;
      slots = p.slots;
      floor = p.floor;
    }

-- parts left as they were make the struct that was given
pub given_back : (number : ℕ) (p : Panel) (after : Parts) → ((number ≡ 0 → ⊥) → after ≡ parts_of p) → GivenBack number p (panel_of after)
given_back number p after same refuses = ap panel_of (same refuses)
