use mathlib.Core.Path.{◌≡◌, ap, sym, ◌∙◌}
use mathlib.Core.List.{List}
use Prim.Native.Nat.{ℕ, ◌+◌, ◌-◌, ◌≤◌}
use native.Mathlib.Omega.{arith}
use borrow.Rule.Slice.PartMut.{put_mid}
use lib.Seq.{drop-drop, length-take-le}
use Rattle.std.proofs.Common.{length, append_assoc, take, drop, length-drop}
use Rattle.std.proofs.lemmas.List.Edits.{sets, sets-eq}
use Rattle.words.proofs.put_bytes.Goals as goal

written_over : (s bytes part : List ℕ) (i n : ℕ) → part ≡ bytes → length part ≡ length (take (i + n - i) (drop i s)) → i + n ≤ length s → put_mid i (i + n - i) s part ≡ sets s i bytes
written_over s bytes part i n is len h =
    let k : i + n - i ≡ n = omega arith in
    let t : length (take n (drop i s)) ≡ n = length-take-le n (drop i s) (rw length-drop (omega arith)) in
    let l : length bytes ≡ n = sym (ap length is) ∙ (rw k at len) ∙ t in
    rw (is, k, drop-drop n i s, sets-eq bytes s i (omega arith), l) (sym (append_assoc (take i s) bytes (drop (i + n) s)))

pub returns : goal.returns
returns g c = written_over c.args.s.now c.args.bytes c.copy_from_slice.new.self c.args.i g.row.N c.copy_from_slice.ensures.after c.copy_from_slice.ensures.len c.requires
