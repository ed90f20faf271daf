use Rattle.std.proofs.Common.{◌≡◌, ℕ, ◌+◌, ◌≤◌, List, ◌++◌, rules, length, take, subst, drop_at, length-take-le}
use Rattle.std.specs.Io.KnownBytes.{Consumes}
use Rattle.std.proofs.KnownBytes.{Consumes-trans}
use borrow.Rule.Slice.PartMut.{put_mid, post_of, take_put}
use lib.Seq.{take-add, take-append-le}
use Rattle.input.proofs.load.Goals as goal

-- the front that was filled, and what was read behind it
taken_more : (a k m : ℕ) (xs ys : List ℕ) → a ≤ length xs → m ≤ length ys → take a xs ++ take m ys ≡ take (a + m) (put_mid a k xs ys)
taken_more a k m xs ys p q =
    let after = post_of a k xs in
    let halves = take-add a m (put_mid a k xs ys) in
    let front = take_put a k xs ys p in
    let rest = drop_at (take a xs) (ys ++ after) a (length-take-le a xs p) in
    let part = take-append-le m ys after q in
    cc

pub loop-n-preserved : goal.loop-n-preserved
loop-n-preserved g c =
    let before = c.loop-n.invariant in
    let read = c.in_ok-more.ensures in
    (search rules, search rules, subst (Consumes _ _) (taken_more _ _ _ _ _ before.0 read.bound.0) (Consumes-trans _ _ _ _ _ before.2 read.bytes.0))
