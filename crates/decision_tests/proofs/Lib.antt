mod Examples
mod SumExamples
