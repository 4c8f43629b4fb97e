use Rattle.cmd_perform.proofs.generated.built_program.Goals as goal

pub returns : goal.returns
returns c = rw (c.in_ok-sources.ensures, c.new-source.ensures, c.of_vec.ensures, c.in_ok-text.ensures) at c.build_image.ensures
