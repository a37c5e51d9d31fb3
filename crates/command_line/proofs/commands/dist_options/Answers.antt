-- The options are what the flags' values spell.
use Rattle.std.proofs.Common.{◌∙◌, codes, rules}
use Rattle.clap.specs.Words.{found_of}
use Rattle.clap.proofs.WalkLemmas.{one_text-rows}
use Rattle.command_line.proofs.CommandLines.{text_of_flag}
use Rattle.command_line.proofs.commands.dist_options.Goals as goal

pub returns-clause-options : goal.returns-clause-options
returns-clause-options c =
    let given = one_text-rows (found_of c.args.flags.now) (codes "nearest") in
    record {
      metric = search (rules, text_of_flag);
      set = λ e. c.get_flag.ensures.value (given ∙ e);
      unset = λ e. c.get_flag.ensures.other (given ∙ e);
      query = c.get_str-2.ensures ∙ text_of_flag (found_of c.args.flags.now) (codes "query");
      workers = c.in_ok-workers.ensures.0;
      edge = c.in_ok-edge.ensures;
    }
