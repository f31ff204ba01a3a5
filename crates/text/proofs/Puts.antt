-- Text put into a buffer, piece after piece.
use mathlib.Core.Path.{◌≡◌, refl, sym, ap, ◌∙◌}
use mathlib.Core.List.{List, [], ◌∷◌, ◌++◌}
use Prim.Native.Nat.{ℕ, ◌+◌, ◌≤◌, ◌<◌}
use native.Mathlib.Nat.{add-zero}
use native.Mathlib.Omega.{arith}
use lib.ListN.{length, set, take, drop, length-append, length-set}
use lib.Seq.{paste, paste-zero, paste-suc, take_at, length-take-le}
use Rattle.numbers.specs.Buffer.{over}
use Rattle.numbers.proofs.Over.{over-nil, over-over, over_paste, length_over}
use Rattle.text.specs.declared.Text.{Text}
use Rattle.text.specs.Put.{Room, Put, PutBehind}

-- nothing is put
pub put_nil : (buffer : List ℕ) (at : ℕ) → Put buffer at [] buffer at
put_nil buffer at = record { bytes = sym (over-nil buffer at); kept = refl; place = omega arith }

-- one byte is put
pub put_set : (buffer : List ℕ) (at byte : ℕ) → at < length buffer → Put buffer at (byte ∷ []) (set buffer at byte) (at + 1)
put_set buffer at byte room =
    record {
      bytes =
          ap (λ (b : List ℕ). set b at byte) (paste-zero buffer at (byte ∷ []))
          ∙ ap (λ (n : ℕ). set (paste buffer at (byte ∷ []) 0) n byte) (sym (add-zero at))
          ∙ paste-suc buffer at (byte ∷ []) 0 0 (omega arith) (omega arith)
          ∙ over_paste buffer at (byte ∷ []) 1 refl;
      kept = simp length-set;
      place = refl;
    }

-- bytes are put
pub put_over : (buffer : List ℕ) (at : ℕ) (text : List ℕ) → Room buffer at (length text) → Put buffer at text (over buffer at text) (at + length text)
put_over buffer at text room = record { bytes = refl; kept = length_over buffer at text room; place = refl }

-- more text is put behind it
pub put_put : {buffer : List ℕ} {at : ℕ} {text after : List ℕ} {behind : ℕ} {more last : List ℕ} {end : ℕ} → at ≤ length buffer
    → Put buffer at text after behind → Put after behind more last end → Put buffer at (text ++ more) last end
put_put {buffer} {at} {text} {after} {behind} {more} {last} {end} within put next =
    record {
      bytes = next.bytes ∙ ap (λ (b : List ℕ). over b behind more) put.bytes ∙ over-over buffer at text behind more put.place within;
      kept = next.kept ∙ put.kept;
      place = rw length-append (omega (arith, put.place, next.place));
    }

-- one byte more
pub put_next : {buffer : List ℕ} {at : ℕ} {text after : List ℕ} {behind : ℕ} (byte : ℕ) → behind < length buffer → Put buffer at text after behind
    → Put buffer at (text ++ (byte ∷ [])) (set after behind byte) (behind + 1)
put_next {buffer} {at} {text} {after} {behind} byte room put =
    put_put (omega (arith, put.place)) put (put_set after behind byte (omega (arith, put.kept)))

-- pieces of at most so many bytes
pub put_short : {buffer : List ℕ} {at : ℕ} {text after : List ℕ} {behind : ℕ} {more last : List ℕ} {end : ℕ} (few most : ℕ) → at ≤ length buffer
    → Put buffer at text after behind × (behind ≤ at + few)
    → Put after behind more last end × (end ≤ behind + most)
    → Put buffer at (text ++ more) last end × (end ≤ at + (few + most))
put_short few most within put next = (put_put within put.0 next.0, omega (arith, put.1, next.1))

-- ---- of a text

-- nothing is put
pub put_none : (t : Text) → PutBehind t [] t
put_none t = record { put = put_nil t.buffer.now t.at; same = refl }

-- more is put behind it
pub put_behind : {t u v : Text} {text more : List ℕ} → t.at ≤ length t.buffer.now → PutBehind t text u → PutBehind u more v
    → PutBehind t (text ++ more) v
put_behind within before next = record { put = put_put within before.put next.put; same = next.same ∙ before.same }

-- what stands before its end then: what stood there, and that
pub bytes_behind : {t u : Text} {text : List ℕ} → t.at ≤ length t.buffer.now → PutBehind t text u
    → take u.at u.buffer.now ≡ take t.at t.buffer.now ++ text
unfolding over
bytes_behind {t} {u} {text} within behind =
    let front : length (take t.at t.buffer.now ++ text) ≡ u.at =
    rw length-append (omega (arith, behind.put.place, length-take-le t.at t.buffer.now within)) in
    ap (take u.at) behind.put.bytes ∙ take_at (take t.at t.buffer.now ++ text) (drop (t.at + length text) t.buffer.now) u.at front
