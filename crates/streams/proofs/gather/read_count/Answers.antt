-- Another block joins those that were gathered; after the last one there are as many bytes as were
-- asked for, and at the reader's end fewer.
use Rattle.std.proofs.Common.{◌≡◌, ◌∙◌, ℕ, arith, rules, subst}
use Rattle.streams.specs.Gathered.{PutsCount}
use Rattle.std.proofs.lemmas.Result.{err_from_is_err_and}
use Rattle.streams.proofs.CutLines.{few_behind}
use Rattle.streams.proofs.Gathering.{Gathers-both, taken_behind, PutsCount-both, ended_fewer}
use Rattle.streams.proofs.gather.read_count.Goals as goal

pub returns-in_err-done-clause-taken : goal.returns-in_err-done-clause-taken
returns-in_err-done-clause-taken g c =
    let part = c.in_err-done.ensures.part in
    taken_behind _ _ _ _ _ c.turns.invariant.gathered (part.bytes, part.taken)

pub turns-preserved : goal.turns-preserved
turns-preserved g c = record {
  gathered = Gathers-both _ _ _ _ _ _ c.turns.invariant.gathered c.in_ok-done.ensures.all;
  none_failed = c.in_ok-done.ensures.counts (λ e. absurd cc) ∙ c.turns.invariant.none_failed;
  count = PutsCount-both _ _ _ _ _ c.turns.invariant.count c.in_ok-done.ensures.count;
  within = search rules;
  written = c.in_ok-done.ensures.written ∙ c.turns.invariant.written;
}

pub returns-clause-count : goal.returns-clause-count
returns-clause-count g c =
    let first = c.turns-test.false in
    let within = c.turns.invariant.within in
    let all : c.turns.done ≡ c.args.count = omega (arith, first, within) in
    subst (λ (n : ℕ). PutsCount n c.args.bytes.now.items c.turns.bytes.items) all
    c.turns.invariant.count

pub returns-in_err-done-clause-ended : goal.returns-in_err-done-clause-ended
returns-in_err-done-clause-ended g c = λ ended.
    ended_fewer c.args.count c.turns.done _ _ _ _ _ _ c.turns-test.true
    c.turns.invariant.gathered c.turns.invariant.count (c.read_block.ensures.ended (search rules))

pub returns-in_err-done-clause-part : goal.returns-in_err-done-clause-part
returns-in_err-done-clause-part g c =
    let p = err_from_is_err_and c.from_residual.result c.from_residual.ensures.1 in
    rw p.1 (few_behind c.turns.done _ c.args.count _ _ _ _ _ (search rules)
    c.turns.invariant.gathered c.turns.invariant.count c.in_err-done.ensures.part)
