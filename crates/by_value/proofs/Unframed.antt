-- The promise of a call that writes no frame. Assumes nothing.
use mathlib.Core.Path.{◌≡◌, refl, sym, ap, ◌∙◌}
use mathlib.Core.List.{[]}
use Prim.Native.Nat.{ℕ}
use lib.ListN.{length}
use Rattle.rules.specs.Panel.{Panel as Record}
use Rattle.rules.specs.Results.{Call, frame_of, Result, refused, done, defined, Promised}
use Rattle.rules.proofs.Results.{defined_both}

-- a call that writes no frame answers a frame length of 0
no_frame : (p : Record) (call : Call) → frame_of p call ≡ [] → (defined p call).frame_length ≡ 0
unfolding refused done
no_frame p call e = defined_both (λ r. r.frame_length ≡ 0) p call (λ n z. refl) (λ z. ap length e)

pub promised_unframed : (p : Record) (call : Call) → frame_of p call ≡ [] → (r : Result) → Promised p call r
    → Promised p call
    (record { number = r.number; panel = r.panel; count = r.count; output = r.output; frame_length = 0; buffer = r.buffer })
promised_unframed p call e r promised =
    ap (λ (n : ℕ). record { number = r.number; panel = r.panel; count = r.count; output = r.output; frame_length = n; buffer = r.buffer })
    (sym (ap (λ (z : Result). z.frame_length) promised ∙ no_frame p call e))
    ∙ promised
