-- The words are 0 before version 0 is written: first its directory, and then its blocks.
use Rattle.std.proofs.Common.{◌≡◌, length, arith, ◌∙◌, drop, sym}
use Rattle.std.proofs.lemmas.List.{take_at}
use Rattle.events.proofs.shared_words.OpenWords.{directory_room, blocks_room, directory_written}
use Rattle.events.proofs.shared_words.OpenWords.{rows_written, words_opened}
use Rattle.events.proofs.opening.opening_words.Goals as goal

pub fill_directory-requires : goal.fill_directory-requires
fill_directory-requires c =
    directory_room _ c.of-plan.result _ c.of-plan.ensures.plan c.requires
    (c.as_mut_slice-words.ensures.len ∙ c.in_ok-list.ensures.len
    ∙ c.words.ensures _ c.of-plan.ensures.plan)

pub fill_blocks-requires : goal.fill_blocks-requires
fill_blocks-requires c =
    blocks_room _ c.of-plan.result _ c.of-plan.ensures.plan c.requires
    (c.fill_directory.auto.words ∙ (c.as_mut_slice-words.ensures.len ∙ c.in_ok-list.ensures.len
    ∙ c.words.ensures _ c.of-plan.ensures.plan))

pub returns : goal.returns
returns c =
    let is = c.of-plan.ensures.plan in
    let zeros = c.as_mut_slice-words.ensures.value
    ∙ c.in_ok-list.ensures.items_if_clones_equal (λ y same. same) in
    let count = c.fill_blocks.auto.words ∙ (c.fill_directory.auto.words
    ∙ (c.as_mut_slice-words.ensures.len ∙ c.in_ok-list.ensures.len)) in
    let written : c.in_ok-list.list.len ≡ length c.fill_blocks.new.words =
    omega (arith, count, c.in_ok-list.ensures.len) in
    rw (take_at c.fill_blocks.new.words
    (drop (length c.fill_blocks.new.words) c.in_ok-list.list.items) c.in_ok-list.list.len
    (sym written))
    (words_opened _ c.of-plan.result _ _ _ is zeros (c.words.ensures _ is) count
    (λ m h. c.fill_blocks.ensures.before m (omega (arith, c.of-plan.result.rows_are))
    ∙ c.fill_directory.ensures.before m h)
    (directory_written _ c.of-plan.result _ _ is c.requires c.fill_directory.ensures.blocks
    c.fill_blocks.ensures.before)
    (rows_written _ c.of-plan.result _ is c.fill_blocks.ensures.rows))
