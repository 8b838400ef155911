-- What a plan holds. Assumes nothing.
use Rattle.prices.specs.Tables.{TableData, table_data}
use Rattle.kinds.specs.declared.plan.Plan.{Plan}

abbrev pub plan_table : Plan → TableData
plan_table p = table_data p.table
