use Rattle.std.proofs.Common.{◌≡◌, ◌-◌, ◌++◌, length, take, drop, arith, length-append}
use Rattle.std.proofs.lemmas.Simd.{length-chunk, pick_l_whole}
use Rattle.hj_emit.proofs.marks.ends_of_4.Goals as goal

pub returns : goal.returns
returns c =
    let bytes = c.args.bytes.now in
    let front = take 4 bytes in
    let back = take 4 (drop (length bytes - 4) bytes) in
    let long : length (front ++ back) ≡ 8 = omega (arith, length-append front back, length-chunk 0 4 bytes (omega arith), length-chunk (length bytes - 4) 4 bytes (omega arith)) in
    pick_l_whole 0 (front ++ back) 8 long
