use Rattle.sheet.proofs.whole.read_all.Goals as goal

pub returns : goal.returns
returns c = simp (c.new.ensures.sheet, c.new.ensures.start, c.new.ensures.draft) at c.whole.ensures
