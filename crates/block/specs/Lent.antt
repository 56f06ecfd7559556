-- The words of a block that are lent.
use Rattle.block.specs.declared.Block.{Block}
use Rattle.block.specs.declared.Words.{Words}

-- the block that they are
abbrev pub lent : Words → Block
lent w = record { headers = w.headers.now; cells = w.cells.now; logs = w.logs.now; standings = w.standings.now }
