use Rattle.sheetlaw.proofs.NextRows.{every_sheet}
use Rattle.sheets.proofs.laws.sheet_law.Goals as goal

pub returns : goal.returns
returns g c = every_sheet g.K.Letter.alphabet g.K.Letter.numbered
