use Rattle.std.proofs.Common.{[], length, ◌∙◌, rules}
use Rattle.rewrites.proofs.Agreeing.{same_printed, same_written}
use Rattle.rewritelaw.proofs.Goods.{good}
use Rattle.rewritelaw.proofs.Orders.{first}
use Rattle.rewrites.proofs.outcome.rewrite_file.Goals as goal

pub returns : goal.returns
returns c =
    let n = length c.args.tables.now.records.now in
    let w = length c.args.tables.now.words.now in
    let printed = same_printed n w c.args.texts.now.two.now c.args.texts.now.trend.now c.args.texts.now.seepage.now c.args.work.now c.args.input.now in
    let written = same_written n w c.args.texts.now.two.now c.args.texts.now.trend.now c.args.texts.now.seepage.now c.args.work.now c.args.input.now in
    let text = c.print_file-done.ensures.page.text [] c.args.out.now c.new-page.ensures.fresh in
    let same = c.print_file-done.ensures.page.page ∙ c.new-page.ensures.page in
    record {
      out = search rules;
      length = c.used.ensures ∙ text.1;
      written = c.print_file-done.ensures.written;
      whole = printed;
      whole_written = written;
      two = c.print_file-done.ensures.two;
      trend = c.print_file-done.ensures.trend;
      seepage = c.print_file-done.ensures.seepage;
      lent = c.print_file-done.ensures.lent;
      work = c.print_file-done.ensures.work;
      good = good n w c.args.texts.now.two.now c.args.texts.now.trend.now c.args.texts.now.seepage.now c.args.work.now c.args.input.now;
      first = first n w c.args.texts.now.two.now c.args.texts.now.trend.now c.args.texts.now.seepage.now c.args.work.now c.args.input.now;
      list = c.print_file-done.ensures.list;
    }
