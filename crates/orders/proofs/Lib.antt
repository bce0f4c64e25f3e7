mod WordsRead
mod CountsRead
mod FewSteps
