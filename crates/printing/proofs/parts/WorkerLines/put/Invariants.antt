-- The lines of the rows before y are written, and take no more than their share of the room.
use Rattle.std.proofs.Common.{◌≡◌, ◌+◌, ◌-◌, ◌*◌, ◌≤◌, take, vec_capacity, vec_len}
use Rattle.printing.specs.RowCells.{IsRowRoom}
use Rattle.printing.specs.Table.{rows_text}
use Rattle.printing.proofs.parts.WorkerLines.put.Given as goal

-- the lines of the rows so far are written
abbrev pub invariant-rows : goal.invariant-rows
invariant-rows g l = record {
  text : take l.end l.self.text.items ≡ rows_text l.printer.nearest l.printer.table.width l.first
      (l.y - l.first) l.printer.table.nears;
  taken : l.end ≤ (l.y - l.first) * (25 * l.printer.table.width + 1);
  within : l.end ≤ vec_len l.self.text;
  room : vec_capacity l.fn.self.text ≤ vec_capacity l.self.text;
  cells : IsRowRoom l.printer.nearest l.printer.table.width l.self.row;
}
