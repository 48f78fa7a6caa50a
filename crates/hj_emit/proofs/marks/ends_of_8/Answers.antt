use Rattle.std.proofs.Common.{◌≡◌, ◌-◌, ◌++◌, length, take, drop, arith, length-append}
use Rattle.std.proofs.lemmas.Simd.{length-chunk, pick_l_whole}
use Rattle.hj_emit.proofs.marks.ends_of_8.Goals as goal

pub returns : goal.returns
returns c =
    let bytes = c.args.bytes.now in
    let front = take 8 bytes in
    let back = take 8 (drop (length bytes - 8) bytes) in
    let long : length (front ++ back) ≡ 16 = omega (arith, length-append front back, length-chunk 0 8 bytes (omega arith), length-chunk (length bytes - 8) 8 bytes (omega arith)) in
    pick_l_whole 0 (front ++ back) 16 long
