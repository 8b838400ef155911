-- The plain data of a sheet's head and of a whole sheet. Assumes nothing.
use Rattle.heads.specs.Kinds.{network_code, contract_code}
use Rattle.draft.specs.Plans.{plan_table}
use Rattle.sheet.specs.declared.head.SheetHead.{SheetHead}
use Rattle.sheet.specs.declared.plan_sheet.PlanSheet.{PlanSheet}
use Rattle.sheet.specs.Layout.{HeadValues, Contents}

abbrev pub head_values : SheetHead → HeadValues
head_values h =
    record {
      contract = contract_code h.contract;
      network = network_code h.network;
      supplier = h.supplier;
      sum = h.sum;
      term = h.term;
      first = h.first;
      last = h.last;
    }

abbrev pub contents : PlanSheet → Contents
contents s = record { head = head_values s.head; name = s.name; link = s.link; plan = plan_table s.plan }
