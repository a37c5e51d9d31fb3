-- What is held at the opening is what the empty log tells.
use Rattle.desk.proofs.Names.{sym, ap, ◌∙◌, length, arith, Home, bad_field-none}
use Rattle.std.proofs.lemmas.List.FromFn.{length-range_with_len}
use Rattle.desk.proofs.HoldOpen.{told_new}
use Rattle.desk.proofs.holding.Holding.of.Goals as goal

pub new-requires : goal.new-requires
new-requires c = (bad_field-none _ _ c.requires).few_blocks

pub open-requires : goal.open-requires
open-requires c =
    omega (
      arith,
      (bad_field-none _ _ c.requires).blocks,
      ap length c.in_ok-arena.ensures.free,
      length-range_with_len 0 c.args.setting.blocks,
    )

pub end-requires : goal.end-requires
end-requires c =
    ap length (c.in-Err.ensures.kept ∙ c.in_ok-arena.ensures.free)
    ∙ (length-range_with_len 0 c.args.setting.blocks
    ∙ sym (ap (λ (h : Home). h.count) c.open.ensures.home ∙ c.in_ok-arena.ensures.count))

pub returns-in-Ok : goal.returns-in-Ok
returns-in-Ok c =
    let opened = c.in-Ok.ensures.opened in
    let blocks = length-range_with_len 0 c.args.setting.blocks in
    told_new c.args.setting c.args.map.now _ record {
      fits = c.requires;
      bitmap = c.width.ensures.bitmap;
      ledger_is = c.of.ensures;
      draft_is = opened.0;
      version_0 = opened.1;
      newest_is = opened.2;
      own_is = opened.3;
      parts = sym c.in_ok-arena.ensures.free ∙ opened.4;
      came_is = opened.5;
      retired_is = opened.6;
      pieces_long = c.in-Ok.ensures.tiles;
      home_is = opened.7 ∙ sym c.open.ensures.home;
      room_is = opened.8 ∙ (ap length c.in_ok-arena.ensures.free ∙ blocks);
      count_is = ap (λ (h : Home). h.count) c.open.ensures.home ∙ c.in_ok-arena.ensures.count;
    }
