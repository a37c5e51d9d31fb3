-- The bytes of the row were added.
use Rattle.std.proofs.Common.{rules, ◌≡◌, ℕ, ◌+◌, ◌≤◌, ◌++◌, List, length, take, ap, ◌∙◌, arith}
use Rattle.std.proofs.lemmas.List.{get_or-append-add, get_or-take, length-append, length-take-le}
use Rattle.pbm.specs.Image.{bytes_across}
use Rattle.pbm.proofs.RawRows.{row-bytes}
use Rattle.pbm.proofs.raw_writer.push_row.Goals as goal

pub returns-clause-text : goal.returns-clause-text
returns-clause-text c =
    let across : ℕ = bytes_across c.args.bitmap.now.width in
    let room : bytes_across c.args.bitmap.now.width ≤ length c.put_row.new.row = search rules in
    let items : c.extend_from_slice.new.self.items
    ≡ c.args.out.now.items ++ take (bytes_across c.args.bitmap.now.width) c.put_row.new.row =
    search rules in
    let size : length c.extend_from_slice.new.self.items
    ≡ length c.args.out.now.items + bytes_across c.args.bitmap.now.width =
    ap length items
    ∙ (length-append c.args.out.now.items (take across c.put_row.new.row)
    ∙ ap (λ (n : ℕ). length c.args.out.now.items + n)
    (length-take-le across c.put_row.new.row room)) in
    items ∙ ap (λ (t : List ℕ). c.args.out.now.items ++ t)
    (row-bytes c.args.bitmap.now c.args.y c.row_words.result.now c.put_row.new.row
    c.row_words.ensures room
    (λ k within. rw (
      items,
      get_or-append-add c.args.out.now.items (take across c.put_row.new.row) k 0,
      get_or-take across c.put_row.new.row k 0 within,
    ) at
    (c.type_inv.out (length c.args.out.now.items + k) 0 (omega (arith, size, within))))
    c.put_row.ensures.bits)
