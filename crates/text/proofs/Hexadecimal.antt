-- Bytes in hexadecimal: one byte more, and two digits for each.
use mathlib.Core.Path.{◌≡◌, refl, sym, ap}
use mathlib.Core.List.{List, [], ◌∷◌, ◌++◌, append_assoc, append-nil}
use Prim.Native.Nat.{ℕ, ◌+◌, ◌*◌, ◌/◌, ◌%◌, ◌≤◌, ◌<◌}
use native.Mathlib.Numerals.{add-one}
use native.Mathlib.Omega.{arith}
use lib.ListN.{length, get_or, take, length-append}
use lib.Seq.{take-suc}
use Rattle.std.proofs.Common.{length-take-le}
use Rattle.text.specs.declared.Text.{Text}
use Rattle.text.specs.Text.{digit, hexadecimal}
use Rattle.text.specs.Put.{PutBehind}
use Rattle.text.proofs.Puts.{put_none, put_behind}

pub hexadecimal-snoc : (bs : List ℕ) (b : ℕ) → hexadecimal (bs ++ (b ∷ [])) ≡ hexadecimal bs ++ (digit (b / 16) ∷ []) ++ (digit (b % 16) ∷ [])
unfolding hexadecimal
hexadecimal-snoc [] b = refl
hexadecimal-snoc (x ∷ bs) b = ap (λ (text : List ℕ). digit (x / 16) ∷ digit (x % 16) ∷ text) (hexadecimal-snoc bs b)

pub length-hexadecimal : (bs : List ℕ) → length (hexadecimal bs) ≡ 2 * length bs
unfolding hexadecimal
length-hexadecimal [] = refl
length-hexadecimal (x ∷ bs) = let rest = length-hexadecimal bs in omega (arith, rest)

-- ---- behind bytes

-- the digits of one byte more
pub hexadecimal_more : (before bytes text first both : List ℕ) (i high low : ℕ) → i < length bytes
    → text ≡ before ++ hexadecimal (take i bytes)
    → high ≡ digit (get_or bytes i 0 / 16)
    → low ≡ digit (get_or bytes i 0 % 16)
    → first ≡ text ++ high ∷ []
    → both ≡ first ++ low ∷ []
    → both ≡ before ++ hexadecimal (take (i + 1) bytes)
hexadecimal_more before bytes text first both i high low below t h l f e =
    rw (add-one, take-suc bytes i 0 below, hexadecimal-snoc (take i bytes) (get_or bytes i 0), e, f, t, h, l) (simp append_assoc)

-- how long the text is then
pub hexadecimal_size : (before bytes text : List ℕ) (i : ℕ) → i ≤ length bytes → text ≡ before ++ hexadecimal (take i bytes)
    → length text ≡ length before + 2 * i
hexadecimal_size before bytes text i within t =
    rw (t, length-append, length-hexadecimal, length-take-le i bytes within) refl

pub one_more : (text after : List ℕ) (byte : ℕ) → after ≡ text ++ byte ∷ [] → length after ≡ length text + 1
one_more text after byte e = rw (e, length-append) refl

pub hexadecimal_none : (text : List ℕ) → text ≡ text ++ hexadecimal []
unfolding hexadecimal
hexadecimal_none text = sym (append-nil text)

-- ---- behind a text in lent memory

-- of no bytes
pub hexadecimal_none_lent : (t : Text) → PutBehind t (hexadecimal []) t
unfolding hexadecimal
hexadecimal_none_lent t = put_none t

-- of the first bytes of a list, one more: its two digits are put
pub hexadecimal_more_lent : {t u v w : Text} (bytes : List ℕ) (i high low : ℕ) → i < length bytes
    → t.at ≤ length t.buffer.now
    → high ≡ digit (get_or bytes i 0 / 16)
    → low ≡ digit (get_or bytes i 0 % 16)
    → PutBehind t (hexadecimal (take i bytes)) u
    → PutBehind u (high ∷ []) v
    → PutBehind v (low ∷ []) w
    → PutBehind t (hexadecimal (take (i + 1) bytes)) w
hexadecimal_more_lent bytes i high low below within h l before first last =
    rw (add-one, take-suc bytes i 0 below, hexadecimal-snoc (take i bytes) (get_or bytes i 0), ← h, ← l)
    (put_behind within (put_behind within before first) last)
