-- As many of the digits as are wanted, after a whitespace byte if there is one.
use Rattle.std.proofs.Common.{◌≡◌, ◌-◌, take, drop, length, arith, length-drop}
use Rattle.std.proofs.lemmas.List.{take_all}
use Rattle.pbm.proofs.Digits.{AreSomeRead-line}
use Rattle.pbm.proofs.PartReads.{AreSomeRead-one}
use Rattle.pbm.proofs.plain_word.read_some.Goals as goal

pub returns-then-count-eq0 : goal.returns-then-count-eq0
returns-then-count-eq0 c = AreSomeRead-one c.args.most c.args.bytes.now _ _ _ c.requires.some
    c.in_ok-black.ensures c.from.ensures

pub returns : goal.returns
returns c =
    let rest : take (length c.behind_space-line.result.now - c.from-2.result)
    (drop c.from-2.result c.behind_space-line.result.now)
    ≡ drop c.from-2.result c.behind_space-line.result.now =
    take_all (length c.behind_space-line.result.now - c.from-2.result)
    (drop c.from-2.result c.behind_space-line.result.now)
    (omega (arith, length-drop c.from-2.result c.behind_space-line.result.now)) in
    let same : c.from-2.result ≡ c.min-count.result = omega arith in
    rw rest
    (rw same (AreSomeRead-line c.front_digits-run.result.0 c.args.most c.min-count.result
    c.args.bytes.now c.behind_space-line.result.now c.front_digits-run.result.1
    c.behind_space-line.ensures (omega arith) (omega arith) (omega arith)
    (omega arith) c.front_digits-run.ensures.digits))
