-- Each row goes into its cells; where one is cut, the raster is.
use Rattle.std.proofs.Common.{◌≡◌, ◌≤◌, ◌<◌, ◌∙◌, refl, arith}
use Rattle.std.proofs.lemmas.Result.{on_ok_weaker}
use Rattle.pbm.specs.Image.{bytes_across}
use Rattle.pbm.proofs.Following.{failed-so, Follows-nothing, Follows-both, IsFaultOf-weaker}
use Rattle.pbm.proofs.Following.{Meets-after, Meets-follows}
use Rattle.pbm.proofs.RowReads.{IsRawTo-none, IsRawTo-row, IsRawTo-all, IsRawTo-cut}
use Rattle.pbm.proofs.source.take_raw.Goals as goal

pub rows-init : goal.rows-init
rows-init g c = record {
  open_still = c.requires.«open»;
  taken = Follows-nothing (λ all. IsRawTo-none _ _ all _ c.requires.blank);
  width_still = refl;
  height_still = refl;
  none_failed = refl;
}

pub rows-preserved : goal.rows-preserved
rows-preserved g c =
    let across : c.from-across.result ≡ bytes_across c.args.bitmap.now.width = omega arith in
    let few : c.args.bitmap.now.width ≤ 4096 = omega arith in
    let row = rw across at c.in_ok-next_row.ensures.row in
    record {
      open_still = c.next_row.ensures.«open»;
      taken = rw c.set_row.ensures.written
          (Follows-both (λ all here left. IsRawTo-row c.args.bitmap.now.width
          c.args.bitmap.now.height c.rows.y all here left c.next_row.new.words c.rows.bitmap few)
          c.rows.invariant.taken row);
      width_still = rw c.set_row.ensures.written c.rows.invariant.width_still;
      height_still = rw c.set_row.ensures.written c.rows.invariant.height_still;
      none_failed = c.in_ok-next_row.ensures.counts ∙ c.rows.invariant.none_failed;
    }

pub returns-in_err-next_row-clause-fault : goal.returns-in_err-next_row-clause-fault
returns-in_err-next_row-clause-fault g c =
    let across : c.from-across.result ≡ bytes_across c.args.bitmap.now.width = omega arith in
    let row : c.rows.y < c.args.bitmap.now.height = omega arith in
    failed-so _ _ _ c.from_residual.ensures.1
    (IsFaultOf-weaker c.in_err-next_row.field-0.0
    (λ fault. Meets-after (λ all here packed cut. IsRawTo-cut c.args.bitmap.now.width
    c.args.bitmap.now.height c.rows.y c.rows.bitmap fault all here row packed (rw across at cut))
    c.rows.invariant.taken) c.in_err-next_row.ensures.fault)

pub returns-clause-raster : goal.returns-clause-raster
returns-clause-raster g c =
    let down : c.rows.y ≡ c.args.bitmap.now.height = omega arith in
    let whole = rw down at c.rows.invariant.taken in
    on_ok_weaker c.fill.result
    (λ more. Meets-follows (λ all left so. (left, IsRawTo-all _ _ all left _ so)) whole)
    c.fill.ensures.more
