-- The word of the next version's directory is the draft's own block, or newest's where the draft
-- has none.
use Rattle.std.proofs.Common.{arith, refl, sym, ◌∙◌}
use Rattle.map_core.proofs.ReaderWorld.{word_read}
use Rattle.map_core.proofs.KeepWorld.{consistent_of, newest_kept, own_within_tiles, next_at}
use Rattle.map_core.proofs.KeepWorld.{word_own, word_newest}
use Rattle.map_core.proofs.world.World.map_word.Goals as goal

pub index-requires : goal.index-requires
index-requires c =
    omega (
      arith,
      c.self.inside.own.ok,
      own_within_tiles
          (consistent_of c.self.view_is c.self.invariant),
      c.requires.inside,
    )

pub returns-in-Some-clause-place : goal.returns-in-Some-clause-place
returns-in-Some-clause-place c =
    next_at (consistent_of c.self.view_is c.self.invariant) _ _
    c.next_map_at-place.ensures.place

pub returns-in-None-clause-place : goal.returns-in-None-clause-place
returns-in-None-clause-place c =
    next_at (consistent_of c.self.view_is c.self.invariant) _ _
    c.next_map_at-place.ensures.place

pub returns-in-Some-clause-word : goal.returns-in-Some-clause-word
returns-in-Some-clause-word c =
    c.from-word.ensures ∙ word_own (consistent_of c.self.view_is c.self.invariant) _ c.in-Some.block
    c.index.result.now c.requires.inside
    (sym c.index.ensures ∙ c.in-Some.is)

pub returns-in-None-clause-word : goal.returns-in-None-clause-word
returns-in-None-clause-word c =
    word_newest (consistent_of c.self.view_is c.self.invariant) _ c.map_at.result _
    c.index.result.now c.requires.inside
    (sym c.index.ensures ∙ c.in-None.is) c.map_at.ensures.place
    (word_read c.args.self.now _ _ c.map_at.result c.index-in-None.result.now _
    record {
      same = c.self.view_is;
      count = refl;
      words_are = refl;
      read = c.index-in-None.ensures;
      within = c.map_at.ensures.within;
    })

pub map_at-requires-clause-kept : goal.map_at-requires-clause-kept
map_at-requires-clause-kept c =
    newest_kept (consistent_of c.self.view_is c.self.invariant)
