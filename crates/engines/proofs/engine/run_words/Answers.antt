-- What words ask for is done or begun as they say it.
use Rattle.command_line.proofs.CommandLines.{said_so}
use Rattle.engines.proofs.engine.run_words.Goals as goal

pub returns-clause-done : goal.returns-clause-done
returns-clause-done g c = λ reads writes errors. record {
  said = c.options.result;
  said_by = said_so _ c.options.result c.options.ensures.options c.options.ensures.refused;
  done = c.run_said.ensures.done reads writes errors;
}

pub returns-clause-failed_write : goal.returns-clause-failed_write
returns-clause-failed_write g c = λ failed.
    let begun = c.run_said.ensures.failed_write failed in (
      record {
        said = c.options.result;
        said_by = said_so _ c.options.result c.options.ensures.options c.options.ensures.refused;
        begun = begun.0;
      },
      begun.1,
      begun.2,
    )
