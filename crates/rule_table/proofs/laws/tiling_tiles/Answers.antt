use Rattle.rule_table.proofs.TilingLemmas.{tiling_tiles}
use Rattle.rule_table.proofs.laws.tiling_tiles.Goals as goal

pub returns : goal.returns
returns c = tiling_tiles
