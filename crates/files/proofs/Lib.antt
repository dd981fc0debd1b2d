-- The join of comma-separated files. The layers above cite Laws.
pub mod Laws
mod FilePuts
mod Gathering
mod FilesGathered
mod RunFiles
mod JoinSteps
mod LeastWidths
mod Values
mod TableWidths
mod Highest
mod Columns
mod Raises
mod StandingTables
mod RaisedTables
mod FrontWidths
mod JoinOrder
mod FileQuestions
mod ShortFiles
mod RefusedJoins
mod RunJoins
mod Delivering
mod Examples
