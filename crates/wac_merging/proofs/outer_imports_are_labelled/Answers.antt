use Rattle.wac_merging.proofs.Labels.{class_is_labelled, outers_are_labelled, one_more_labelled}
use Rattle.wac_merging.proofs.Outers.{labels_are_of_classes}
use Rattle.wac_merging.proofs.outer_imports_are_labelled.Goals as goal

pub returns-clause-class : goal.returns-clause-class
returns-clause-class c s = class_is_labelled

pub returns-clause-outers : goal.returns-clause-outers
returns-clause-outers c s = outers_are_labelled

pub returns-clause-more : goal.returns-clause-more
returns-clause-more c s = one_more_labelled

pub returns-clause-labels : goal.returns-clause-labels
returns-clause-labels c s = labels_are_of_classes
