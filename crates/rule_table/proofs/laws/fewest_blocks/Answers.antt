use Rattle.std.proofs.Common.{◌+◌}
use Rattle.rule_table.specs.Tiling.{tiling}
use Rattle.rule_table.proofs.BlockLemmas.{fewest}
use Rattle.rule_table.proofs.TilingLemmas.{tiling_tiles}
use Rattle.rule_table.proofs.laws.fewest_blocks.Goals as goal

pub returns : goal.returns
returns c = λ first last blocks h t. fewest (last + 1) first (tiling first last) blocks (tiling_tiles first last h) t
