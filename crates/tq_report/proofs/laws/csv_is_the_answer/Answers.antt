use Rattle.tq_report.proofs.CsvLaws as csv
use Rattle.tq_report.proofs.laws.csv_is_the_answer.Goals as goal

pub returns : goal.returns
returns c options table format inclusive none whole = csv.csv_is_the_answer options table format inclusive none whole
